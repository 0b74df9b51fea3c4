pub mod Answers
pub mod Numbering

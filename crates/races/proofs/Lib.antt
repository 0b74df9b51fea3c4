pub mod ListAnswers
pub mod Unique

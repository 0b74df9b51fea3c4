pub mod Answers
pub mod Kinds
pub mod OneProof
pub mod Read

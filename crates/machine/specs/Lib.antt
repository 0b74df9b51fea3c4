pub mod Answers
pub mod OtherTasks
pub mod Places
pub mod Plays

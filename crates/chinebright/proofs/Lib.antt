pub mod Unique
pub mod Codes
pub mod LentStates

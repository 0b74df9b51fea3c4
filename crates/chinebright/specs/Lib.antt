pub mod Coded
pub mod Steps

pub mod Allowed
pub mod Fuel
pub mod Tasks
pub mod Turns
pub mod Unique

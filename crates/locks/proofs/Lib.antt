pub mod ByKind
pub mod Search
pub mod Unique

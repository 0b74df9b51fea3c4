pub mod Matrix
pub mod Words

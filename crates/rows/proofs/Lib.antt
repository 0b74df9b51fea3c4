pub mod BitList
pub mod Bits
pub mod Written
pub mod Pairs
pub mod RowPairs
pub mod Runs
pub mod Unique

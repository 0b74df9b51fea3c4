pub mod RowsFound
pub mod Leaves
pub mod Whole
pub mod Known
pub mod Unique

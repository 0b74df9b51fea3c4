pub mod BitLines
pub mod LineEnds
pub mod TailsMade
pub mod RowLines
pub mod SectionPieces
pub mod SectionTexts
pub mod Unique

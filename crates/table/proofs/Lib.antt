pub mod Bounds
mod Chain
pub mod Faults
mod FormLaws
mod FourBytes
pub mod KindLaws
pub mod Lefts
pub mod Results
mod RightLaws
mod SectionLaws
mod SetBits
pub mod Shown
pub mod Told
mod Unique
mod UniqueFields
mod UniqueRecords

pub mod CellLaws
pub mod Listing
pub mod Naming
pub mod Numbering
pub mod Writing

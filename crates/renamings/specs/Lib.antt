pub mod Given
pub mod Spaces
pub mod Renames

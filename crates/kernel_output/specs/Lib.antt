pub mod Cells
pub mod Declares
pub mod Outputs

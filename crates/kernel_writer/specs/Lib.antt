pub mod Goals
pub mod Parts
pub mod Tasks

pub mod Whole
pub mod Fields
pub mod Nodes
pub mod Heads
pub mod Entries
pub mod Pending

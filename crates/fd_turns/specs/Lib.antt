pub mod Nodes
pub mod Moves

pub mod Bounds
pub mod BoundedTrees

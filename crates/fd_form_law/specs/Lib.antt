pub mod FdCompleteness
pub mod Laws
pub mod Posts
pub mod Numbered
pub mod Shapes
pub mod FdOptimality

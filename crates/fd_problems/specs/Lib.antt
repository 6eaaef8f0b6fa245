pub mod Problems
pub mod Optima

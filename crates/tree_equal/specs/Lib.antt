pub mod Answers
pub mod Grown

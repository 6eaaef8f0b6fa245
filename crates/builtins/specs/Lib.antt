pub mod Answers
pub mod Choices
pub mod Exact
pub mod Looks
pub mod Tables

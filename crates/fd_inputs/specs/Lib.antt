pub mod Answers
pub mod News
pub mod Spines

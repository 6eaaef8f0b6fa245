pub mod Steps
pub mod Lefts
pub mod Verdicts

pub mod Orderly
pub mod Kept
pub mod Telling

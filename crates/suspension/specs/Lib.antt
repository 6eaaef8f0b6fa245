pub mod Sleeping
pub mod Changes

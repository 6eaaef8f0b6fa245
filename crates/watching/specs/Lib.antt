pub mod Watching
pub mod Lists
pub mod Changes

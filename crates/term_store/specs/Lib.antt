pub mod Classes
pub mod Logs
pub mod Places
pub mod Telling
pub mod Bounds
pub mod Closing
pub mod Taking
pub mod VariableDomains

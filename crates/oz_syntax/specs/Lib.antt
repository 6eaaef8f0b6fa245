pub mod View
pub mod Codes

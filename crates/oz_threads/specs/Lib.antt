pub mod Members
pub mod Sights

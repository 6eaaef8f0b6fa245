pub mod Stores
pub mod Choices
pub mod Notes
pub mod Laws

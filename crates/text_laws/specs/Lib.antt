pub mod Terms
pub mod Meanings
pub mod Renaming
pub mod Laws

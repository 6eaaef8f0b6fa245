pub mod Places
pub mod Known
pub mod Parts
pub mod Offers
pub mod Due
pub mod Waits

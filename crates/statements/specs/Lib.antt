pub mod Variables
pub mod Offers

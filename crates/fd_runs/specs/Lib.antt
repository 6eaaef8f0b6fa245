pub mod Runs
pub mod Offers
pub mod Laws

pub mod Settled
pub mod Outside
pub mod Contents

pub mod States
pub mod Distributing

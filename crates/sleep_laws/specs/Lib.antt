pub mod Asleep
pub mod Woken
pub mod Touching

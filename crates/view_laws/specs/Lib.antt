pub mod Touched
pub mod Sights
pub mod Trees
pub mod Spaceless
pub mod Readies
pub mod Queues
pub mod Needs
pub mod Steps

pub mod Settles
pub mod Edits
pub mod Turns
pub mod Content
pub mod Sound
pub mod Clashes

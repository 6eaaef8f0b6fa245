pub mod Waited
pub mod Rounds

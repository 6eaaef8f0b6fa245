pub mod Fielding
pub mod Noding
pub mod Standing
pub mod Leading
pub mod Translating

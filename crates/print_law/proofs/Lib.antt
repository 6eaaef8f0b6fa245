pub mod Classes
pub mod Openings
pub mod Printing
pub mod TheLaws

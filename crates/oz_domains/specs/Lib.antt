pub mod Domains
pub mod Positions
pub mod Relations
pub mod Passes
pub mod Splits

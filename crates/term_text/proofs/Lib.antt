pub mod Placed
pub mod Printing
pub mod Reversed

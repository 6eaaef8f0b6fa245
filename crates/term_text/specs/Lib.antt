pub mod Operands
pub mod Pending
pub mod Placing
pub mod TextWithin

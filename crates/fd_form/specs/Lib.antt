pub mod Parts
pub mod Sums
pub mod FdScripts
pub mod Steps
pub mod Costs

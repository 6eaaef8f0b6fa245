pub mod Visits
pub mod Laws
pub mod Rests
pub mod BestNodes

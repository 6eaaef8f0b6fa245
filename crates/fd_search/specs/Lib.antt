pub mod Searching
pub mod Laws
pub mod Texts
pub mod BestSearching

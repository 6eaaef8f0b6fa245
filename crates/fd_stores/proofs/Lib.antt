pub mod Sets
pub mod Lists
pub mod StoreLaws
pub mod RunLaws
pub mod SettleLaws
pub mod NoteLaws
pub mod PlaceLaws
pub mod SplitLaws

pub mod PlaceLaws
pub mod ActLaws
pub mod DoneLaws

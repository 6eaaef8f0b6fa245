pub mod RunLaws
pub mod ToldRuns
pub mod DueLaws
pub mod OfferLaws

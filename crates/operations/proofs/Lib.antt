pub mod OutcomeLaws
pub mod ReadLaws

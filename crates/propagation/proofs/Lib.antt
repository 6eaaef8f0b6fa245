pub mod DueLaws
pub mod RunLaws

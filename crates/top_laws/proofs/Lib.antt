pub mod SeenLaws
pub mod OutsideLaws
pub mod EditedLaws
pub mod StepLaws
pub mod RestLaws
pub mod RunLaws

pub mod SettleLaws
pub mod RunLaws
pub mod StepLaws
pub mod RestLaws
pub mod MoveLaws
pub mod ChoiceLaws

pub mod OwnLaws
pub mod EditedLaws
pub mod LeftLaws
pub mod RestLaws
pub mod StepLaws
pub mod SettledLaws
pub mod ContentLaws

pub mod AsleepLaws
pub mod LeftLaws
pub mod WokenLaws
pub mod WakesLaws
pub mod TouchingLaws
pub mod RestLaws
pub mod RequeueLaws

pub mod LaidLaws
pub mod WakingLaws

pub mod KeyLaws
pub mod WakeLaws

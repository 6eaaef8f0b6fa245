pub mod AcceptLaws
pub mod Progress
pub mod Uniqueness

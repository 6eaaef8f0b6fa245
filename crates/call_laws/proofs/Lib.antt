pub mod Answering
pub mod BestLaws
pub mod TopLaws

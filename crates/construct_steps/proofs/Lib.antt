pub mod Counts
pub mod HeadLaws

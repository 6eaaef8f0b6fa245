pub mod Declares
pub mod FeatureLaws
pub mod Keeps

pub mod ReadLaws
pub mod TieLaws
pub mod FeatureLaws
pub mod BestTieLaws

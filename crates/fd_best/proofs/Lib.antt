pub mod LieLaws
pub mod AgreeLaws
pub mod StepLaws
pub mod PathLaws
pub mod SolvesLaws
pub mod OptimumLaws

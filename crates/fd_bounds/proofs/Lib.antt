pub mod BoundLaws
pub mod BoundedSimulationLaws
pub mod BestLaws
pub mod BoundedTreeLaws

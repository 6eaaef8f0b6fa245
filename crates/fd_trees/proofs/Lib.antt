pub mod TreeLaws
pub mod AnswerLaws
pub mod EndLaws
pub mod SimulationLaws
pub mod OrderLaws
pub mod ExtensionLaws
pub mod ScriptLaws

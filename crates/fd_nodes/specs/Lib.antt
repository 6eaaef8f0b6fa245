pub mod Reports
pub mod Nodes

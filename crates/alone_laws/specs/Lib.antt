pub mod Alone
pub mod AloneRuns

pub mod Building
pub mod Cases

pub mod PartCodes
pub mod StatementCodes
pub mod RecordCodes

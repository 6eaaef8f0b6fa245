pub mod FuelLaws
pub mod ReportLaws
pub mod NodeLaws

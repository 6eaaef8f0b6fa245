pub mod ValueTells
pub mod RowTells
pub mod TopLaws
pub mod OpeningLaws
pub mod RootLaws
pub mod ScriptLaws

pub mod FireLaws
pub mod AfterLaws
pub mod StateLaws
pub mod RoundLaws

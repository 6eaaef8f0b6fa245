pub mod AnswerLaws
pub mod ChoiceLaws
pub mod DomainLaws
pub mod NameLaws
pub mod ReadyLaws
pub mod TableLaws

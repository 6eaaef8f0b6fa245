pub mod Fields
pub mod OrderLaws
pub mod ParenLaws
pub mod PieceLaws

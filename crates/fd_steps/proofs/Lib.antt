pub mod EditLaws
pub mod GoodLaws
pub mod MoreLaws
pub mod DueTurns
pub mod ActTurns

pub mod BindLaws
pub mod CallLaws
pub mod OfferLaws
pub mod ReadyLaws

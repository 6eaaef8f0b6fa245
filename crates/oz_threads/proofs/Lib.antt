pub mod MemberLaws
pub mod ReadyLaws

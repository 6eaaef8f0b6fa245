pub mod NumberedLaws
pub mod OrderlyLaws
pub mod HeadLaws
pub mod DueLaws
pub mod KeptLaws
pub mod TellingLaws

pub mod SameLaws
pub mod ValueLaws
pub mod StandLaws
pub mod TellLaws
pub mod NewsLaws
pub mod InputLaws
pub mod DeterminedLaws

pub mod EachLaws
pub mod ParenLaws
pub mod PartLaws
pub mod PlaceLaws
pub mod ProgramLaws
pub mod StatedLaws
pub mod SumLaws

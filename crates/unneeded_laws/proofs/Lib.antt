pub mod SpareLaws
pub mod OwnLaws
pub mod UnneededLaws

pub mod RelationLaws

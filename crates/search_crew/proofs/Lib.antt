mod BoardLaws
mod CrewLaws
mod EndLaws
mod NearLaws
mod PartLaws

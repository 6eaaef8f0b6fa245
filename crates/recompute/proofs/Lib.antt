mod BestLaws
mod EntryLaws
mod NodeLaws
mod PlaceLaws
mod WayLaws

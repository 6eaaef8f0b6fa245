mod EntryLaws
mod StopLaws
mod SearchLaws

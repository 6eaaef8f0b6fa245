pub mod StayingLaws
pub mod JoiningLaws
pub mod CandidateLaws
pub mod KeyLaws
pub mod DueLaws
pub mod WatchLaws
pub mod PlaceLaws
pub mod FreeLaws

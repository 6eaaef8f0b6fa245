pub mod Replies
pub mod BestReplies
pub mod Calls

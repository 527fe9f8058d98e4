pub mod Takes
pub mod Replies

pub mod Seen
pub mod Fetches
pub mod Limits

pub mod Lists
pub mod Sums
pub mod Fetches
pub mod Folds
pub mod Replies
pub mod Restarted

pub mod Rows
pub mod Replies
pub mod Steps
pub mod Changed
pub mod Rooms

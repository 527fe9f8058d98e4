pub mod Fed
pub mod Lines
pub mod Feeds
pub mod Moves

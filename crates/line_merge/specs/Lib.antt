pub mod Items
pub mod Streams
pub mod Tries
pub mod Opening
pub mod Seen
pub mod Fetch
pub mod Taken
pub mod Found

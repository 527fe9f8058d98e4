pub mod Bounding
pub mod Fetching
pub mod Enrolling
pub mod Bringing
pub mod Planning
pub mod Owed
pub mod Making

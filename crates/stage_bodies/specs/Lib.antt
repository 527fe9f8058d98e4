pub mod Seen
pub mod Several
pub mod Moments
pub mod Reads
pub mod Told
pub mod Lawful
pub mod Jobs
pub mod Posts

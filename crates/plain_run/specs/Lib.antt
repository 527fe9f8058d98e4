pub mod Seen
pub mod Jobs
pub mod Works
pub mod Owes
pub mod Runs
pub mod Steps
pub mod Acked

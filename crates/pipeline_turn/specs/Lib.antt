pub mod Jobs
pub mod Seats
pub mod Rule
pub mod Steps

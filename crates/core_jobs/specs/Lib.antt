pub mod Begun
pub mod Recorded
pub mod Steps

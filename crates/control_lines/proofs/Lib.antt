pub mod Tries
pub mod Readings
pub mod Steps
pub mod Naming
pub mod Kept
pub mod Resting
pub mod Obeying
pub mod Noting

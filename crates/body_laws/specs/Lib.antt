pub mod Counts
pub mod Lawful
pub mod Keeps
pub mod Ready
pub mod Lates
pub mod Passes

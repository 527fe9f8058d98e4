pub mod Least
pub mod Picks

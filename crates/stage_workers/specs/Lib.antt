pub mod Rounds
pub mod Holds

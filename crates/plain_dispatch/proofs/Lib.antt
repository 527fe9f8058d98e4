pub mod Remainders
pub mod Turned

pub mod Pairs
pub mod Taking
pub mod Ranges
pub mod Rounds
pub mod Opened
pub mod Merging
pub mod Firsts

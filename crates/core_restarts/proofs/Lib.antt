pub mod Unbegun
pub mod Times
pub mod Pairs
pub mod Revived

mod Sums
pub mod Times
mod Places
pub mod Laws

pub mod Homes
pub mod Lends

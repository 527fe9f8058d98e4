pub mod Order
pub mod Places
pub mod Bare
pub mod Singles
pub mod Units

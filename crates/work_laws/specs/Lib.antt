pub mod Work
pub mod Limits
pub mod Left

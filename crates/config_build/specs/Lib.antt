pub mod Build
pub mod Limits

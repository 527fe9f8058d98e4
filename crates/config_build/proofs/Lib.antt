pub mod Limits
pub mod Stages

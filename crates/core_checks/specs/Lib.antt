pub mod Limits

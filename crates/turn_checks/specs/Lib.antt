pub mod Logged
pub mod Tokens

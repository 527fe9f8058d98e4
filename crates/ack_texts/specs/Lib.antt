pub mod Logs
pub mod Sides
pub mod Lines
pub mod Groups

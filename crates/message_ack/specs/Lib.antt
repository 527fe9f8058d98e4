pub mod Groups
pub mod Ends

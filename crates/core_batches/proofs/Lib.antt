pub mod Opens
mod Limits
mod Gathering
mod Joining
pub mod Removing
pub mod Closing
pub mod Writing
mod Written
pub mod Rooming

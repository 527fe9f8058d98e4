pub mod Numbered
pub mod Running

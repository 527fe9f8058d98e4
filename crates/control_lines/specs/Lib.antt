pub mod Orders
pub mod Steps
pub mod Keeping
pub mod Obeyed
pub mod Rest

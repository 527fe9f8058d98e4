pub mod Cut
pub mod Seen
pub mod Read

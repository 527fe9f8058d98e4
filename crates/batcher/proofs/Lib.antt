pub mod Gathers
pub mod Closing
pub mod Leaving
pub mod Places
pub mod Journals

pub mod Ranges
pub mod Members
pub mod Logged
pub mod Cuts
pub mod Along
pub mod Entries

pub mod File
pub mod Fit
pub mod Flat
pub mod Upgrade

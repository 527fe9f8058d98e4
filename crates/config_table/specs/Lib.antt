pub mod Fault
pub mod Format
pub mod Shape
pub mod Values
pub mod Walk

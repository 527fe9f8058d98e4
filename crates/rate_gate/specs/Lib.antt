pub mod Gate
pub mod Room
pub mod Front
pub mod Gated
pub mod Fresh

pub mod Losses
pub mod Legs
pub mod Batches
pub mod Lost

pub mod Batches
pub mod Seen

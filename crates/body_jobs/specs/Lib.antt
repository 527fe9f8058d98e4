pub mod Batches
pub mod Boxes
pub mod Fetched

pub mod Boxes
pub mod Chunks
pub mod Told
pub mod Lawful

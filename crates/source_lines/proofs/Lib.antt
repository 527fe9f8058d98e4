pub mod Pieces
pub mod Fetches

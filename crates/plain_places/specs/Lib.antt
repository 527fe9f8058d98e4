pub mod Standing
pub mod Moves
pub mod Rows
pub mod Changes

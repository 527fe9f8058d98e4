pub mod Leaving
pub mod Answering
pub mod Losing
pub mod Crashing
pub mod Rooms

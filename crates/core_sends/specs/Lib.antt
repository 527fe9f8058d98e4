pub mod Rooms
pub mod Losing
pub mod Batches
pub mod Picks

pub mod Rooms
pub mod Casts

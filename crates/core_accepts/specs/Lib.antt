pub mod Rooms
pub mod Records

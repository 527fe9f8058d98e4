pub mod Legality
pub mod Settling
pub mod Upto
pub mod PlaceRows
pub mod Placed

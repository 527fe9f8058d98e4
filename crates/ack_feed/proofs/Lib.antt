mod Feeding
mod Moving
pub mod Fronts

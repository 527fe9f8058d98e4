pub mod Columns
pub mod Laws
pub mod Contents
pub mod Slots
pub mod Enrolled
pub mod Due
pub mod Acked

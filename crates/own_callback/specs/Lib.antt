pub mod Came
pub mod Plain

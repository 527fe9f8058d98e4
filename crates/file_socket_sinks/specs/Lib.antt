pub mod Back
pub mod Came
pub mod Names
pub mod Once

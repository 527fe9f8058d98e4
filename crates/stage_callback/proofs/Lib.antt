pub mod BatchSteps
pub mod Resets
pub mod Shapes

pub mod Cutting
pub mod Extending
pub mod Held
pub mod Keeping
pub mod Keeps
pub mod Walks

pub mod Named
pub mod Text
pub mod Fields

pub mod Seen
pub mod Named
pub mod Gates
pub mod Supplies
pub mod Naming
pub mod Opened
pub mod Returned
pub mod Controls

pub mod Flows
pub mod Views

pub mod Lists
pub mod Streaming
pub mod Tallies
pub mod Reports
pub mod FoundSteps
pub mod Placewise

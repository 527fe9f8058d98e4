pub mod Touched
pub mod Climbs
pub mod Entries
pub mod Listed
pub mod Verdicts
pub mod Grouped

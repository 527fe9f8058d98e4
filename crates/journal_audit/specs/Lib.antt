pub mod Causes
pub mod Verdicts
pub mod Lines
pub mod AuditSeen
pub mod Pieces
pub mod Counts

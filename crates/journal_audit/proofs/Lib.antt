pub mod Counting
pub mod Judging
pub mod Piecewise
pub use Rattle.journal_reading.proofs.Placing

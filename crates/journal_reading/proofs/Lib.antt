mod Cuts
mod Fronts
mod Why
pub mod Reading
pub use Rattle.plain_run.proofs.Placing

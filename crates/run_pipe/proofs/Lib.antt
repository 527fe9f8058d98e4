mod Views
mod Watching
mod Measures
mod Gone
mod InHands
mod Backs
pub mod Outs
mod Idles
mod Homing
mod Going
mod Starts
mod Outcomes
mod CutShort
mod Serving
pub use Rattle.stage_holds.proofs.Kept
pub use Rattle.stage_holds.proofs.Obeying

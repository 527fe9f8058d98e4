pub mod Cases
pub mod Audits
pub mod Runs
pub mod Flows
pub use Rattle.pipe_run.specs.Boxes
pub use Rattle.pipe_run.specs.Outside

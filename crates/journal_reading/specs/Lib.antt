pub mod Faults
pub mod Reads
pub mod OneLine
pub use Rattle.plain_run.specs.Seen

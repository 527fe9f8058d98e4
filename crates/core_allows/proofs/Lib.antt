pub mod Held
pub mod Asked
pub mod Late
pub mod Slot
pub mod Unfound
pub mod OpenBatches
pub mod Replied
pub mod Allowed

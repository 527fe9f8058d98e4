pub mod Starting
pub mod Fresh
pub mod Next
pub mod Changed
pub mod Ended
pub mod Rooming
pub mod InSlot

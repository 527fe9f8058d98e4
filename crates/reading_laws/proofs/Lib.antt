pub mod Passing
pub mod Contents
pub mod Producers
pub mod Taken
pub mod Legal
pub mod Visible
pub mod Texts
pub mod Found

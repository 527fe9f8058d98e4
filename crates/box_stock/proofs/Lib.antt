mod Lists
mod Ranks
pub mod Located
mod Armable
mod Lending
mod Assembly
pub mod Filled
pub mod Staying

pub mod Units
pub mod Selected

pub mod Beginning
pub mod Owned
pub mod Owing

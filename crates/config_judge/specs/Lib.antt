pub mod Judge
pub mod Stood

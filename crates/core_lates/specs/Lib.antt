pub mod Lates

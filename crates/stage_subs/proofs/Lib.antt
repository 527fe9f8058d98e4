pub mod Ledger
pub mod Rows

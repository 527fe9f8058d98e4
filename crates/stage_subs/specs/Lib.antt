pub mod Pairs
pub mod Subs
pub mod Ledger

pub mod Renewals
pub mod Standing

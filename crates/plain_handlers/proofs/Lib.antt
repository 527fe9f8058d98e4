pub mod Lengths
pub mod Remainders
pub mod Batches

pub mod Rises
pub mod Fetching
pub mod Going

pub mod Finding
pub mod Working
pub mod Queues
pub mod Totals
pub mod Known
pub mod Roomy
pub mod Fetched
pub mod Allowed

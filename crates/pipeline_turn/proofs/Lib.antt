pub mod Journals
mod Views
mod Ruled
mod Handing
mod Seating
mod Seen

mod Sources
mod Merges
pub mod Records
mod Sinks
mod Controls
mod Bodies
mod Callbacks
mod Stocks
mod Calls
mod Runs
mod LiveSinks
mod Rates
mod Wholes
mod Unlive
mod Ungated

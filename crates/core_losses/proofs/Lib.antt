mod Passing
pub mod LegsLost
mod Dropping
mod FirstDrop
mod BatchesLost
pub mod Working
pub mod Dues
pub mod SeenKilled
pub mod AfterLoss
mod LostHeld

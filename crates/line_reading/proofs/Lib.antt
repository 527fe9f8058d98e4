pub mod Loops
pub mod Spelt
pub mod Chains
pub mod ItemsAgain
pub mod ItemsSpelt
pub mod Again
pub mod Back

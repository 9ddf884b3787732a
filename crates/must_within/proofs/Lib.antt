pub mod Weights
pub mod Steps
pub mod Calls
pub mod Rounds

pub mod Joining
pub mod Requesting
pub mod Stepping
pub mod Telling

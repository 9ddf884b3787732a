pub mod Terms
pub mod Telling
pub mod Keeping

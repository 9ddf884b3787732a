pub mod Completing
pub mod Standing

pub mod Signatures
pub mod Runs
pub mod Places

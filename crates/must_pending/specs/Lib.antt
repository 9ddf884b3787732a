pub mod Clashes
pub mod Groups

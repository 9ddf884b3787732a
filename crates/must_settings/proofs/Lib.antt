pub mod Members
pub mod Codes

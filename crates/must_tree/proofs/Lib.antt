pub mod Lawful
pub mod RowParts
pub mod Members
pub mod Gathering
pub mod Reached
pub mod Analysing

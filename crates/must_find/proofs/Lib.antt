pub mod Inserted
pub mod Merged

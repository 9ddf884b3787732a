pub mod Complete
pub mod Fits
pub mod Follows
pub mod Lengths
pub mod Members
pub mod Ranges

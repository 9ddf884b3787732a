pub mod Told
pub mod Repeating
pub mod Settled

pub mod Numbering
pub mod Sums
pub mod Likes
pub mod Stepping
pub mod First
pub mod Handing

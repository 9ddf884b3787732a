pub mod Told
pub mod ToldLaws
pub mod Ranks
pub mod Beside
pub mod Reading

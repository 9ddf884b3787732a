pub mod Readers
pub mod Sending
pub mod Telling
pub mod Running
pub mod Shape
pub mod RowLists

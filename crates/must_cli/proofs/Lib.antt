pub mod Put
pub mod Binding
pub mod PartLists
pub mod Checked
pub mod Dumped
pub mod Promised

pub mod Entries
pub mod Lawful
pub mod EntryLaws
pub mod CallLaws

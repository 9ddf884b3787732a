pub mod GroupLaws
pub mod Groups
pub mod NameLaws
pub mod NameOrder
pub mod Names
pub mod Split
pub mod SplitLaws

pub mod Children
pub mod ListLaws
pub mod RankLaws
pub mod ChildLaws
pub mod Rows
pub mod Rule
pub mod States
pub mod Insides

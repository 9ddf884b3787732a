pub mod FirstLaws
pub mod GroupLaws

pub mod RangeLaws
pub mod FewLaws
pub mod CopyLaws
pub mod ByteLaws
pub mod LaidLaws
pub mod PartLaws
pub mod TreeLaws
pub mod SharedLaws

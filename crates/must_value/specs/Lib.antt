pub mod Fronts
pub mod FrontLaws
pub mod Behind
pub mod BehindLaws

pub mod Numbers
pub mod Steps
pub mod Standing
pub mod StandingLaws

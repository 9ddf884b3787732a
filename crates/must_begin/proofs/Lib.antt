pub mod Shapes
pub mod Messages
pub mod Beginning
pub mod Starting
pub mod Keeping
pub mod Waves
pub mod Typing
pub mod Seeing

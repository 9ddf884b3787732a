mod Places
mod Windows
mod Steps
mod Headers
mod Standing

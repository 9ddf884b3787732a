pub mod Settings
pub mod Told
pub mod AskingLaws
pub mod SettingLaws

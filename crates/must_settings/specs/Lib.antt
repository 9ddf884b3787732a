pub mod Taking
pub mod RulesFile

pub mod Naming
pub mod Stating

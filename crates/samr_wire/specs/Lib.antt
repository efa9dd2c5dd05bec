pub mod Interface
pub mod Lawful

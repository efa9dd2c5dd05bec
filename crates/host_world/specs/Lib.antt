pub mod Host
pub mod Programs

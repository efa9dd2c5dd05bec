pub mod Asked
pub mod Operations
pub mod Pages
pub mod Planned
pub mod Profiles
pub mod Touched

pub mod Dealing
pub mod Sending

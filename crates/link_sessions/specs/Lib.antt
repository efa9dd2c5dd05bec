pub mod Answering
pub mod Connections
pub mod Sessions
pub mod Taking
pub mod Transcript
pub mod Turns
pub mod steps

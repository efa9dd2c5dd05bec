pub mod Arguments
pub mod Calls
pub mod Infos
pub mod Lawful
pub mod Outputs
pub mod Replies
pub mod Shared

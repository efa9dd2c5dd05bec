pub mod Doors
pub mod Full
pub mod Hooking
pub mod Services
pub mod TakingOut
pub mod steps

pub mod Doors
pub mod Links
pub mod Memory
pub mod MemoryDoors

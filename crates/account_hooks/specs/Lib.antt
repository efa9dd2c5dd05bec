pub mod Drains
pub mod Laws
pub mod Memory

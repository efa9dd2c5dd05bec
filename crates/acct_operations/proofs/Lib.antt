pub mod ByOpnum
pub mod Each
pub mod Finding
pub mod Ruling
pub mod Securing
pub mod Served

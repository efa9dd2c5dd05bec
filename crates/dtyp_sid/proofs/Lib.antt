pub mod Hexadecimals
pub mod Reader
pub mod Shown
pub mod Texts
pub mod SidBytes
pub mod Equal

pub mod Reading
pub mod Sids
pub mod Text
pub mod steps

pub mod Frugal
pub mod Laws
pub mod Openings
pub mod Table

pub mod Bounds
pub mod Laws
pub mod Listed
pub mod Outcomes
pub mod Translations
pub mod Values

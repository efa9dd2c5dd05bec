pub mod Known
pub mod Laws
pub mod Lookups
pub mod Matches
pub mod Table
pub mod Translations

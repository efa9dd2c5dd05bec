pub mod Accounts
pub mod Domains
pub mod Enumerations
pub mod Laws
pub mod Settings
pub mod Table

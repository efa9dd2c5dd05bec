pub mod AddressSpelling
pub mod Broken
pub mod Decimals
pub mod Digits
mod Found
pub mod Kept
pub mod Parsed
pub mod Parts
mod Sought
pub mod Spelling
pub mod Views

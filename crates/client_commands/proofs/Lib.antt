mod Fitting
pub mod Forms
mod Listed
mod Names
mod Reading
mod Spelled
mod Unfitting

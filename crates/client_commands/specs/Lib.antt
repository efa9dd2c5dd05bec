pub mod Fit
pub mod Outcomes
pub mod Words

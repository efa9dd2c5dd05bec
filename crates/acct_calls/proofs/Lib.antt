pub mod Points
pub mod Folds

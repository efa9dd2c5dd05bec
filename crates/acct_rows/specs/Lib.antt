pub mod Changes
pub mod Laws
pub mod Loading
pub mod PairRules
pub mod PairsOf
pub mod Rows
pub mod Seed
pub mod Sound

pub mod Ends
pub mod Faults
pub mod Memory
pub mod Pairs
pub mod steps

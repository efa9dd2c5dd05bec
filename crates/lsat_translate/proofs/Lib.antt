pub mod Asking
pub mod Back
pub mod Firsts
pub mod Naming
pub mod Referring
pub mod Shaping
pub mod Shown

pub mod Closings
pub mod Counts
pub mod Doors
pub mod Troubles

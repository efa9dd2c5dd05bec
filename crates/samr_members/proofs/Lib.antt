pub mod Agreeing
pub mod Asking
pub mod Keeping
pub mod Modest
pub mod Shaping
pub mod Undoing

pub mod Loop
pub mod Complete
pub mod Again
pub mod Bytes

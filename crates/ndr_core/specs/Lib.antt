pub mod Again
pub mod Bytes
pub mod Codec
pub mod Cursor
pub mod Numbers
pub mod Parts
pub mod Shapes
pub mod steps

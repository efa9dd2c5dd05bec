pub mod Bytes
mod Halving
mod Neighbours
mod Ordered
mod Placing

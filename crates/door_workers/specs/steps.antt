-- What private calls do on the way, and terms of proofs: no reader of a contract needs them.
pub mod Hiring
pub mod Joining
pub mod Lanes
pub mod Moving
pub mod Opening
pub mod Passing
pub mod Serving
pub mod Working

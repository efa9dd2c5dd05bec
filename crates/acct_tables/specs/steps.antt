-- What private calls do on the way, and terms of proofs: no reader of a contract needs them.
pub mod Behind
pub mod Indexes
pub mod Naming
pub mod Primaries
pub mod Turns
pub mod Users

-- What private calls do on the way, and terms of proofs: no reader of a contract needs them.
pub mod Rounds
pub mod Taken

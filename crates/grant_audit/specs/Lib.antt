pub mod Origins
pub mod Traces
pub mod Traced
pub mod Following

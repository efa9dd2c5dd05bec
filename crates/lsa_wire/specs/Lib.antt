pub mod Arguments
pub mod Complete
pub mod FieldValues
pub mod Interface
pub mod Lawful
pub mod Onward
pub mod ReplyValues

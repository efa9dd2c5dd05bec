pub mod CallShapes
pub mod Laws
pub mod Refusals
pub mod ReplyShapes
pub mod Table
pub mod Values

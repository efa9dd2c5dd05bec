pub mod Bodies
pub mod Grammar
pub mod Headers
pub mod Laws
pub mod ReadPdu
pub mod Written

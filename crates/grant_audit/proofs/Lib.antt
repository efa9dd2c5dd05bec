pub mod Lists
pub mod Origins
pub mod Traced
pub mod Followed
pub mod Audited

pub mod Accounts
pub mod ChangeLaws
pub mod Holdings
pub mod Laws
pub mod Listings
pub mod Rights
pub mod RightsChanges
pub mod Table

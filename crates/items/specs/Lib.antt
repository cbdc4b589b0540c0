pub mod Lists
pub mod Items
pub mod Limits
pub mod Refusals
pub mod Table

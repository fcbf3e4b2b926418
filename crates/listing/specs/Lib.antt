-- The root of the crate's specs.
pub mod Limits
pub mod Text
pub mod Bounds
pub mod Listing
pub mod Examples

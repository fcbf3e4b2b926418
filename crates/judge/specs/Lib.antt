-- The root of the crate's specs.
pub mod Head
pub mod Checking
pub mod Examples

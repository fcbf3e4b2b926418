-- The root of the crate's specs.
pub mod Places
pub mod Searching
pub mod Spreading
pub mod Sources

-- The root of the crate's specs.
pub mod Entries
pub mod Stored

-- The root of the crate's specs.
pub mod Filling

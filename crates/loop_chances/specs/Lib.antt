-- The root of the crate's specs.
pub mod Chances
pub mod Sorts

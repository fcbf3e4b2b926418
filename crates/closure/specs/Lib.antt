-- The root of the crate's specs.
pub mod Closure
pub mod Cleared

-- The root of the crate's specs.
pub mod Set
pub mod Laws
pub mod Collecting

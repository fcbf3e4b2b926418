-- The root of the crate's specs.
pub mod Found
pub mod Image

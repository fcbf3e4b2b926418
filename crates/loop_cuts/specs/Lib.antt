-- The root of the crate's specs.
pub mod Walking
pub mod Round

-- The root of the crate's specs.
pub mod Words
pub mod Number

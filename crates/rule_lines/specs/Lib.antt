-- The root of the crate's specs.
pub mod Text
pub mod Writers

-- The root of the crate's specs.
pub mod Flattening
pub mod Order
pub mod Rows
pub mod Meaning
pub mod Kinds

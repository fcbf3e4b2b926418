-- The root of the crate's specs.
pub mod Matching
pub mod Texts
pub mod Settling
pub mod Passing

-- The root of the crate's specs.
pub mod Passing
pub mod Through
pub mod Settling

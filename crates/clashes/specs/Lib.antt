-- The root of the crate's specs.
pub mod Clash
pub mod Pairs
pub mod Groups

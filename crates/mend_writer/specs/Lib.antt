-- The root of the crate's specs.
pub mod Steps
pub mod Groups
pub mod Bytes
pub mod Numbers

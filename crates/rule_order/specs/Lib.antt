-- The root of the crate's specs.
pub mod Rules
pub mod References
pub mod Nets
pub mod Freed

-- The root of the crate's specs.
pub mod Deriving
pub mod Formed
pub mod Matching
pub mod Examples

-- The root of the crate's specs.
pub mod Calling
pub mod Table
pub mod Accepted
pub mod Returns

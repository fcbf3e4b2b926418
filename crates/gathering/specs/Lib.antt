-- The root of the crate's specs.
pub mod Gathering
pub mod Noting
pub mod Behind
pub mod Charts

-- The root of the crate's specs.
pub mod Limits
pub mod Answers
pub mod Snapshots
pub mod Refusals

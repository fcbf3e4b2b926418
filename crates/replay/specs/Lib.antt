-- The root of the crate's specs.
pub mod Flat
pub mod Numbers
pub mod Recorded
pub mod Replaying
pub mod Table
pub mod Records
pub mod Examples

-- The root of the crate's specs.
pub mod Index
pub mod Reading
pub mod Sizes
pub mod Spans
pub mod Ready
pub mod Runs
pub mod Ascending
pub mod Upwards

-- The root of the crate's specs.
pub mod Words
pub mod Counters
pub mod Scratch
pub mod Spans

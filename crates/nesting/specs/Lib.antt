-- The root of the crate's specs.
pub mod Nesting
pub mod Tables
pub mod Climbing
pub mod Loops
pub mod Ahead

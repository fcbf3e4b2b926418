-- The root of the crate's specs.
pub mod Flat
pub mod Numbers
pub mod Fitness
pub mod Before
pub mod Steps
pub mod Execution
pub mod Opening
pub mod HandedOn
pub mod Overruled
pub mod Examples

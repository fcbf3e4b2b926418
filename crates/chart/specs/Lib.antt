-- The root of the crate's specs.
pub mod Flat
pub mod Numbers
pub mod Reading
pub mod Conditions
pub mod Outcome
pub mod ReadingGives
pub mod Repeats
pub mod Examples
pub mod Before
pub mod Stored
pub mod Larger
pub mod Headed

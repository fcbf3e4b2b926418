-- The root of the crate's specs.
pub mod Staying
pub mod Clauses
pub mod Smaller
pub mod Runs
pub mod Keeping
pub mod Loops
pub mod Examples
pub mod Numbering
pub mod Kept
pub mod Numbers
pub mod Written
pub mod Whole
pub mod Formed

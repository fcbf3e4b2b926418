-- The root of the crate's specs.
pub mod Calling
pub mod Marks
pub mod Book

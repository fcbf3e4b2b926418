-- The root of the crate's specs.
pub mod Flat
pub mod Numbers
pub mod ReadingBack
pub mod Written
pub mod Table

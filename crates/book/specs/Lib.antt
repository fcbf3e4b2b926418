-- The root of the crate's specs.
pub mod Text
pub mod GoodTexts
pub mod Book
pub mod Firing
pub mod Image
pub mod ImageOf
pub mod Formed
pub mod Read
pub mod Judging
pub mod WellFormed
pub mod WellRead
pub mod Marks
pub mod Effects
pub mod Reading

-- The root of the crate's specs.
pub mod Records
pub mod Mending
pub mod OfImage
pub mod Images
pub mod Altering
pub mod StepByStep
pub mod Cutting
pub mod Sound
pub mod Undoing
pub mod Listing
pub mod Examples

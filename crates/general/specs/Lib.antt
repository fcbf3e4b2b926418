-- The root of the crate's specs.
pub mod Cases
pub mod Below
pub mod Tables
pub mod Lists
pub mod Numbering
pub mod Writing
pub mod Scan
pub mod Refusals
pub mod Comparing
pub mod Packing

-- The root of the crate's proofs.
pub mod Writing
pub mod Ascending
pub mod Listing

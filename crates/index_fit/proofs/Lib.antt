-- The root of the crate's proofs.
pub mod Comparing
pub mod Climbing

-- The root of the crate's shared laws for proofs.
pub mod Searching

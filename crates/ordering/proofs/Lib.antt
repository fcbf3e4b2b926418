-- The root of the crate's shared laws for proofs.
pub mod Fitting
pub mod Stepping
pub mod Listing
pub mod Through

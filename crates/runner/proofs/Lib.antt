-- The root of the crate's shared laws for proofs.
pub mod Earlier
pub mod Orders
pub mod Turns

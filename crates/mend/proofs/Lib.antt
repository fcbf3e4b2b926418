-- The root of the crate's proofs.
pub mod Accepted
pub mod Earlier
pub mod Returns
pub mod Table

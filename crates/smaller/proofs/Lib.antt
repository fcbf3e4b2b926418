-- The root of the crate's proofs.
pub mod Earlier
pub mod Formed
pub mod Staying
pub mod Written

-- The root of the crate's proofs.
pub mod Settling
pub mod Through

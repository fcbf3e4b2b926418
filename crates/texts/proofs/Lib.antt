-- The root of the crate's proofs.
pub mod Depths
pub mod Returns
pub mod Stacks
pub mod Naming

-- The root of the crate's proofs.
pub mod Senses
pub mod Groups
pub mod Passes
pub mod Rules

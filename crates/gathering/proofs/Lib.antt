-- The root of the crate's proofs.
pub mod Behind
pub mod Charts

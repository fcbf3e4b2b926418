-- The root of the crate's own proofs.
pub mod Front

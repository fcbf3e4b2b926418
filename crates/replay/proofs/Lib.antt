-- The root of the crate's own proofs.
pub mod Walks
pub mod Calls

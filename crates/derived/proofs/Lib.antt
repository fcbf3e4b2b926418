-- The root of the crate's proofs.
pub mod Earlier
pub mod Largest
pub mod Meaning
pub mod OneChart
pub mod RuleBytes
pub mod Sizes

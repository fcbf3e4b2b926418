-- The root of the crate's specs.
pub mod Derived
pub mod Overruled
pub mod Meaning
pub mod OneChart
pub mod Members
pub mod Sizes
pub mod Largest
pub mod WritingLoops
pub mod Parts
pub mod Putting
pub mod RuleBytes

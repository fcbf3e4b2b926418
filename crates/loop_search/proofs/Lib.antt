-- The root of the crate's shared laws for proofs.
pub mod Reading
pub mod Words
pub mod Carrying
pub mod Passing
pub mod Rounds

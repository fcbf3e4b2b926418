-- The root of the crate's shared laws for proofs.
pub mod Listed
pub mod ListTable

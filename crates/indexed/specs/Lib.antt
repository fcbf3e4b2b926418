-- The root of the crate's specs.
pub mod Indexed
pub mod IndexedTable
pub mod Stored

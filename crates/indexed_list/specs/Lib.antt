-- The root of the crate's specs.
pub mod InList
pub mod ListTable

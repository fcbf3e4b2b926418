-- The root of the crate's specs.
pub mod Wire
pub mod Laws

-- The root of the crate's specs.
pub mod Completing
pub mod Ordered
pub mod Table
pub mod Walks
pub mod Completion
pub mod LeftOut
pub mod Examples

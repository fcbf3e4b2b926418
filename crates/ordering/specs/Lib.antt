-- The root of the crate's specs.
pub mod Ready
pub mod Passed
pub mod Scanning
pub mod Turning

-- The root of the crate's specs.
pub mod Flat
pub mod Numbers
pub mod Chart
pub mod Roles
pub mod Tests
pub mod Fitness

-- The root of the crate's proofs.
pub mod Coincide
pub mod Demand1
pub mod Demand2
pub mod Demand3
pub mod Larger
pub mod LargerCharts
pub mod LargerSnapshots
pub mod OneChart
pub mod Rows
pub mod Smaller
pub mod SmallerBooks
pub mod Stages
pub mod Tables

-- The root of the crate's specs.
pub mod Order
pub mod Loops
pub mod Spread
pub mod Written
pub mod Running
pub mod Rising
pub mod Settle
pub mod Snapshots
pub mod Index
pub mod Pass
pub mod Marks
pub mod Fewer
pub mod Skipped
pub mod Pair

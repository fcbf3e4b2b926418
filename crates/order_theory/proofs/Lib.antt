-- The root of the crate's proofs.
pub mod Fewer
pub mod Index
pub mod Loops
pub mod Marks
pub mod Pass
pub mod Rising
pub mod Running
pub mod Settle
pub mod Skipped
pub mod Spread

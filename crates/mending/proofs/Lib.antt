-- The root of the crate's proofs.
pub mod Cutting
pub mod Listing
pub mod RolesStay
pub mod Sound
pub mod StepByStep
pub mod Undoing

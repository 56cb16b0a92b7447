-- The proofs.
pub mod Shown

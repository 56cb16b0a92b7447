-- The proofs.
pub mod Done
pub mod Limits

-- The proofs.
pub mod Between
pub mod Apart

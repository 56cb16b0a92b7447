-- The proofs.
pub mod Behind

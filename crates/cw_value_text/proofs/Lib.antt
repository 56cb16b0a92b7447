-- The proofs.
pub mod Puts

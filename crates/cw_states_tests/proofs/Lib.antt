-- The proofs.
mod Primitives

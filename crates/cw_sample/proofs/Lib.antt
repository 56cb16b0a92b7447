-- The proofs.
mod Numbers
mod Short

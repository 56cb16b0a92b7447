-- The proofs.
mod Reading
mod Grouping
mod Keeping

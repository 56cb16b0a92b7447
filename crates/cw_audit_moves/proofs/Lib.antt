-- The proofs.
mod Steps
mod Stacks

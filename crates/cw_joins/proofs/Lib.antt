-- The proofs.
mod Entries
mod Hints
mod Orders
mod Reaching
mod Chains
mod Ending

-- The proofs.
pub mod Keys
pub mod Reach
pub mod Numbers
pub mod Existing
mod Different

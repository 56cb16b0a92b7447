-- The proofs.
pub mod Nearest
pub mod Orders
pub mod Placed
pub mod Work

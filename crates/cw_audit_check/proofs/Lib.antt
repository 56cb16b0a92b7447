-- The proofs.
mod LookUps
pub mod Orders
pub mod Checked
pub mod Judged
pub mod Verdict
pub mod Walked

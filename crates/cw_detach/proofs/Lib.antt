-- The proofs.
mod Nodes
mod Depths
mod Placing
pub mod Rules
pub mod Kept
mod Apart
mod Absent
pub mod Plain

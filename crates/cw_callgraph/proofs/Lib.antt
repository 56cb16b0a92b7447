-- The proofs.
pub mod Kept
pub mod Calling
mod Reaching
mod Walked
pub mod Rows
mod Least
mod Nodes
mod Barred
mod Parted
mod Forbidden
mod Spelled
mod Seams
mod Scoped

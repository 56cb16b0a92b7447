-- The proofs.
pub mod Skips
pub mod Bounds
pub mod Closing
pub mod Plays
pub mod Least
pub mod Turns

-- The definitions.
pub mod Kept
pub mod Parts
pub mod Positions
pub mod Sets
pub mod States
pub mod Tables
pub mod Verdicts

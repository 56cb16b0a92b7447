-- The proofs.
pub mod Separated
pub mod Starts
pub mod Fronts
pub mod Telling

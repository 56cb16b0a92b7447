-- The proofs.
pub mod Acts
pub mod Answered
pub mod Behind

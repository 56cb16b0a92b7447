-- The proofs.
pub mod Numbers
pub mod Fields
pub mod Stages
pub mod Answered
pub mod Behind

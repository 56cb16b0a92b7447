-- The proofs.
pub mod Puts
pub mod KindWords
pub mod Lines
pub mod Behind
pub mod OneAnswer
mod SomeAnswer

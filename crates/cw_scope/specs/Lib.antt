-- The scope rules and the rules of descriptors.
pub mod Walks
pub mod Names
pub mod Rules
pub mod Faults
pub mod Descriptors
pub mod Held
pub mod Known
pub mod Mentions

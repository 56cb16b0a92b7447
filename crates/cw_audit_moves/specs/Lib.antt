-- The definitions.
pub mod Writing

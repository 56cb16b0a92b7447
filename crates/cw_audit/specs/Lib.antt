-- The definitions.
pub mod Audits
pub mod Bounds

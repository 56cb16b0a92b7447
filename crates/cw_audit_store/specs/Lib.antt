-- The definitions.
pub mod Stores
pub mod Finding
pub mod Listed
pub mod Nearest

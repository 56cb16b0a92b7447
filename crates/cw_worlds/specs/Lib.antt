-- The definitions.
pub mod Forks
pub mod Worlds
pub mod Laws

-- The definitions.
pub mod Plays
pub mod Runs
pub mod Tables
pub mod Conditions
pub mod Stated
pub mod Laws

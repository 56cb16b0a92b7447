pub mod Counts
pub mod TwoPuts
mod Indices
mod Reading
mod Writing
mod Following

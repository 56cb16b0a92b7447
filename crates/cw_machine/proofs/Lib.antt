mod Kept
pub mod Rowed
pub mod Behind
mod Standing

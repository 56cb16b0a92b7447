pub mod Alls
pub mod Parts
pub mod Faults
pub mod Judged
pub mod Lives
pub mod Near
pub mod Kept
pub mod Runs
pub mod Sounds
pub mod Tries
pub mod Lazies
mod Example

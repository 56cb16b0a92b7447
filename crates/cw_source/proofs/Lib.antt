pub mod OneAnswer
pub mod Kept
pub mod Lying
mod Ordered
pub mod Marking
pub mod Unmarked
pub mod Landing
pub mod Starting
pub mod Runnable
mod Held
pub mod Named
pub mod Pieces

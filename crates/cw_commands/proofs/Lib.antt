mod Collected
mod Fits
mod Lone
mod Notes
mod Placed
mod Reading
pub mod Sizes
pub mod Starting
pub mod Statuses

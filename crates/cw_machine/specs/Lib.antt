pub mod Shown
pub mod Knowing
pub mod Apart

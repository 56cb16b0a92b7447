pub mod Texts
pub mod Numbers
pub mod Shown
pub mod Locations
pub mod Standing

pub mod Bounds
pub mod Tabled
pub mod Stated

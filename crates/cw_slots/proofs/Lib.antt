pub mod Numbered
pub mod Found
pub mod Shapes
pub mod Sorts

pub mod Beside
pub mod Standing
pub mod Visiting
pub mod Stepping
pub mod Ending

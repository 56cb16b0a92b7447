pub mod Parts
pub mod Reading
pub mod Woven
pub mod Held
pub mod Accepting
pub mod Comparing

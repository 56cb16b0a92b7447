pub mod Each
pub mod Along
pub mod Parts

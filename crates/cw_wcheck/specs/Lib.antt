pub mod Checking
pub mod Soundness
pub mod Working

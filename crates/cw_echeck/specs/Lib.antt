pub mod Beating
pub mod Checks

pub mod Worlding
pub mod Held

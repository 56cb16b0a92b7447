pub mod Cut
pub mod Woven

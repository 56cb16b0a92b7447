pub mod Held
pub mod Sources
pub mod Turning
pub mod Owning
pub mod Alike

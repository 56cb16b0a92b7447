pub mod Refusals
pub mod Valuing
pub mod Held

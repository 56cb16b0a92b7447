pub mod Finding
pub mod Laid

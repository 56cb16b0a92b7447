pub mod Marked
pub mod Opened
pub mod Called

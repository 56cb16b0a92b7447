pub mod Lines
pub mod Traces
pub mod Labels
pub mod Steps
pub mod Told

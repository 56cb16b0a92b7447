pub mod StrategyText
pub mod Faults
pub mod Fields
pub mod Steps

-- The texts of samples.
pub mod Samples

pub mod Flagged
pub mod Fronts
pub mod Operands

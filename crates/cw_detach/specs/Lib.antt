-- The form of a source, and why it has none.
pub mod Form
pub mod Faults

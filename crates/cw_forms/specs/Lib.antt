-- The form of a source that is read.
pub mod Moved
pub mod Declared
pub mod Stretches
pub mod Spans
pub mod Statements
pub mod Derived
pub mod Laws

-- The proofs.
mod Kept
mod Expressions
mod Declarations
mod Ahead
mod Standing
mod Lexing
mod Parts
mod Brought
mod Observed
mod Formed
mod FilesFormed
mod Markers
mod Derived
mod Trees
mod Lists
mod Scope
mod Descriptors
pub mod Free
mod Nested

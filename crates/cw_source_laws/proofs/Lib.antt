mod Lexed
mod Derived
pub mod Assigning
pub mod Marked
pub mod Opening
pub mod Scoped
pub mod Leaving

pub mod Numbered
pub mod Held
pub mod Seen
pub mod Kinds
pub mod Turns
pub mod Rewriting
pub mod Changes
pub mod Choices

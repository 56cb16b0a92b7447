-- The definitions.
pub mod Capabilities
pub mod Names
pub mod Trees
pub mod Words
pub mod Policies
pub mod Valid
pub mod Plain

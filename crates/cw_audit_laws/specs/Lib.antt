-- The definitions.
pub mod Refusing
pub mod Ruling
pub mod There
pub mod Trying

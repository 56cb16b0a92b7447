-- The definitions.
pub mod Lists

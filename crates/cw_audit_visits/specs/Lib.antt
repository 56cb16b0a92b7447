-- The definitions.
pub mod GroupNumbers
pub mod Searching

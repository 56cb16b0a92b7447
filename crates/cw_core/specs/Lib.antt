pub mod Digits
pub mod Numerals
pub mod Quantities
pub mod Ranges
pub mod StateSet
pub mod Limbs

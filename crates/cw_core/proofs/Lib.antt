mod Bits
mod Decimals
mod Digits
mod Glyphs
mod Hexadecimals
mod Nibbles
mod Readings
pub mod RunTexts
pub mod Runs
pub mod SetTexts
pub mod Sets
pub mod Spellings
mod Subset
mod Texts
mod Limbs

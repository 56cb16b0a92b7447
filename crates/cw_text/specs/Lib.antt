pub mod Lines
pub mod Moves
pub mod KindsByName
pub mod RowLines
pub mod TableText
pub mod LimitsText
pub mod Tapes
pub mod TapeLines

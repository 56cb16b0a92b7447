pub mod RowLines
pub mod Orders
pub mod Adding
pub mod RowNames
pub mod Pieces
pub mod Same
pub mod Faults
pub mod HeadLines
mod LiveLines
pub mod OneAnswer
pub mod PlainLimits
pub mod SomeAnswer

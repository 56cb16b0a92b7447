pub mod Cuts
pub mod FieldTexts
mod Finding
pub mod Free
pub mod Names
pub mod KindsByName
pub mod OneSet
pub mod Numbered
pub mod Added
pub mod OneAnswer
pub mod SomeAnswer
pub mod Few

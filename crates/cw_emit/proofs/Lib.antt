pub mod OneMark
pub mod Slashes
pub mod Openings
pub mod Names
pub mod Cutting
pub mod OneList

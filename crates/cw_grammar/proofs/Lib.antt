pub mod SameTerminal
pub mod TreeRows
mod Placed
mod Examples
mod Spelled
pub mod Deeper
pub mod Wording

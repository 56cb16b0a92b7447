pub mod Flags
pub mod Items

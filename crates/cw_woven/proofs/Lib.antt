pub mod Finding
pub mod Parting
pub mod Fields
pub mod Differing
pub mod Few
pub mod Whole
pub mod Standing
pub mod OneReading
pub mod Opening
pub mod Again
pub mod Apart
pub mod Cutting
pub mod OneFault
mod Due
mod Unread

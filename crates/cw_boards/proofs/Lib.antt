pub mod Shapes
pub mod Settled
pub mod Dropped
pub mod Routines
pub mod Gets
pub mod Chosen
pub mod Having
pub mod Putting
mod Passing
pub mod Below

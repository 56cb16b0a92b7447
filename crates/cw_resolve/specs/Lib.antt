-- What a statement does that is an expression.
pub mod Scenes
pub mod Acts
pub mod Held
pub mod Labels
pub mod Listed
pub mod Own
pub mod Soonest

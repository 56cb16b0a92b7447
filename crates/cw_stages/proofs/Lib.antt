pub mod Answering
pub mod Checks
mod Counted
pub mod Made
pub mod OneGame
pub mod Onward
pub mod Refusing
mod Rowed
mod Spelling
pub mod Unread
mod Weaves
pub mod Withins

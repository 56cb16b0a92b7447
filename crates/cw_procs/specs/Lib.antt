pub mod Steps
pub mod Told
pub mod Laws
pub mod Played
pub mod Walks

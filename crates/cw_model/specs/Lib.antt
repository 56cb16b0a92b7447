pub mod Boards
pub mod Runs
pub mod Plays
pub mod Laws

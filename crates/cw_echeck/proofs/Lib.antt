pub mod Leads
pub mod Boards
pub mod Checks
pub mod Wins
pub mod Rows
pub mod Members
pub mod Starts
pub mod Laws
mod LastLetters
mod Example

mod Dues
mod Counted
mod Listed
mod Sampled
mod Wanting
pub mod Agreeing
pub mod Winning

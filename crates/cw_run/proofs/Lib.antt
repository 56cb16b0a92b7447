pub mod Waits
mod Entries
pub mod Sees
pub mod Sits
pub mod Calls
pub mod Refusals
pub mod Moveless
pub mod Runs
pub mod Going
mod Main
pub mod Looping
pub mod Prefixed
mod Staying

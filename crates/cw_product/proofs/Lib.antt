-- The proofs.
pub mod Alone
pub mod Begun
pub mod Between
pub mod Fine
pub mod Holding
pub mod Making
pub mod Placing
pub mod Routed
pub mod Routing
pub mod There
mod Using
pub mod Within

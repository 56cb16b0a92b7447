-- The proofs.
mod Alike
mod Existing
mod Listings
mod Settles
mod Unsplit
pub mod Ruled
pub mod Tries

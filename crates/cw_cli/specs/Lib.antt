pub mod Weaving
pub mod Telling
pub mod Sampling
pub mod Listings
pub mod Due
pub mod Agreeing

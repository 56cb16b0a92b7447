pub mod Members
pub mod Working
pub mod Chains
pub mod Seeing
pub mod Searching

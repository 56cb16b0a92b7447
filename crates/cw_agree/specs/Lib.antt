pub mod Agreements
pub mod Laws

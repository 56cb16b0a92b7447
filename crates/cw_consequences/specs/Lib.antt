pub mod Stopping
pub mod Unrefused
pub mod Alike
pub mod Laws
pub mod Accepting
pub mod Auditing

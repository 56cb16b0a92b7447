pub mod Checking
pub mod CheckingHeld
pub mod Refuting

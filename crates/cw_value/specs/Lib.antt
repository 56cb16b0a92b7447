pub mod Stores
pub mod Expressions
pub mod Declarations
pub mod Deeds
pub mod Machines
pub mod Starts
pub mod Shown
pub mod Runs

pub mod Stands
pub mod Running
pub mod Starting
pub mod Faults

-- What is due for `procs`.
pub mod Refusals
pub mod Parting

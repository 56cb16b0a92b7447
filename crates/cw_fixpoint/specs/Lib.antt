pub mod Closures
pub mod Seen
pub mod Numbers

pub mod Situated
pub mod Held
pub mod Laying
pub mod Standing
pub mod Ways
pub mod Passing
pub mod Walking
pub mod Shapes
mod Counting
mod Drawn
pub mod Lengths
mod Adding
mod Told
mod Room
mod Functions
mod Marked
mod Numbers

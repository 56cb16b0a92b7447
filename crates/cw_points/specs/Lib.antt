pub mod Points
pub mod Graphs
pub mod Walks
pub mod Sizes
pub mod Drawing
pub mod Marking

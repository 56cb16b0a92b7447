pub mod Sets
pub mod Meeting
pub mod Missing

pub mod Trees
pub mod Names
pub mod Plans
pub mod Frames
pub mod Marks
pub mod Steps
pub mod Runnable
pub mod PlainMarks

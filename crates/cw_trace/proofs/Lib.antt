pub mod Lists
pub mod Named
pub mod OneRun
pub mod Grown
pub mod Boards

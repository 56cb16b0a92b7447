pub mod Steps
pub mod Repeat
pub mod TypesSound
pub mod Levels
pub mod Sound
pub mod Short
pub mod Follows
pub mod TypesComplete
pub mod Again
pub mod PrimaryComplete
pub mod Complete
pub mod Whole
mod Examples
pub mod Climb
pub mod Alone

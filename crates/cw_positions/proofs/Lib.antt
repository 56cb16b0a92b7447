pub mod Begins
pub mod Lengths
mod Visiting
pub mod Standing
pub mod Leading
pub mod Fitting
pub mod Closing
pub mod Programs
pub mod Placing
pub mod Splitting
pub mod LaidOut
pub mod Origins
pub mod Bounding
pub mod Seaming
pub mod Seen
pub mod Opening
pub mod Items
pub mod Rooms

pub mod Positions
pub mod Closed
pub mod Laid
pub mod Origins
pub mod Seams
pub mod Opens
pub mod Items

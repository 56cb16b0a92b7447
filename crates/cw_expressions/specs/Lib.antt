pub mod Cursor
pub mod TypeReading
pub mod Reading
pub mod View
pub mod Next
pub mod Behind

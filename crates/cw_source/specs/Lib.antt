pub mod Places
pub mod Lines
pub mod Read
pub mod Items

mod OneDigit
mod Close
mod Texts
mod Within
mod Standing
mod Made
pub mod Tokened
pub mod Ordered
pub mod Listing
pub mod Alone
pub mod Valued
pub mod Each
pub mod Strings
mod ShortIdentifiers
mod Places
mod LineEnds

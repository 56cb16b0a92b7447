pub mod Alike
pub mod Listed
pub mod Rowed
pub mod Least
mod Answered
mod Audited
mod Causes
mod Each
mod Fits
mod Formed
mod Likes
mod Outcomes
mod Parted
mod Readings
mod Reaudited
mod Singles
mod Stages
mod Summed
mod Texts
mod Tried
mod Valued
mod Worlded
mod Accepted

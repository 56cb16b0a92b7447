pub mod BothWays
pub mod Listed
pub mod DeclarationsSound
pub mod Wording
pub mod DeclarationsComplete
pub mod HeadersComplete
pub mod Rows
pub mod StatementsSound
pub mod Over
pub mod More
pub mod StatementsComplete
mod Parting
pub mod FilesSound
pub mod FilesComplete
pub mod Given
pub mod OneAnswer

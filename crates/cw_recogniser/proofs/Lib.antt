mod Accepting
mod TerminalKinds
mod Heads
mod TypesRead
mod ExpressionsRead
mod DeclarationsRead
mod StatementsRead
mod FilesRead
mod Chains
mod Meanings
mod TypesSound
mod ExpressionsSound
mod DeclarationsSound
mod ParamsSound
mod StatementsSound
mod FilesSound
mod Sound
mod Fits
mod Fronts
pub mod Codes
pub mod Verdicts

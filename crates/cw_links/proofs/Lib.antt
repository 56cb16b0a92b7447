pub mod NodeRows
pub mod Heads
pub mod Threads
pub mod Spelling
pub mod Moves
pub mod CallerLemmas
pub mod FlatRows
pub mod Piles
pub mod Stacks
pub mod Nearing
pub mod Moved
pub mod Entries
pub mod Ranks
pub mod Spreads
pub mod Blocks
mod Bits
pub mod Plain
mod Ranking
pub mod CellNumbers
pub mod Queueing
pub mod Linking
pub mod Spreading
mod Lows
pub mod Trailing

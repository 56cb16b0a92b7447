-- The proofs.
pub mod Sets
pub mod Lowest
pub mod Keys
pub mod AllAims
pub mod Moving
pub mod FewMoves
pub mod Naming
pub mod Ways
pub mod Tall
pub mod Good
pub mod Counting
pub mod Finding
pub mod Looking
pub mod Acting
pub mod Made
pub mod Tabled
pub mod Small
pub mod Parts
pub mod Backs
pub mod Existing
mod Numbered
mod Descending
mod Searching

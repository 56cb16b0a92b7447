-- What each function calls directly, and all that it reaches; what forbids splitting it; which policies fit.
pub mod Effects
pub mod Finding
pub mod Scoping
pub mod Forbidding
pub mod Tabled
pub mod Fitting
pub mod Lowest
pub mod Walking
pub mod Barring
pub mod Parts

-- The laws of the square root. The theorems are in Nearest; other crates may cite the `pub` modules.
pub mod Root
pub mod Scale
pub mod Value
pub mod Nearer
pub mod Nearest
mod Ties
mod Search
mod Tested
mod Fours
mod Cases
mod Examples

-- Laws of hand_back_tails.
pub mod Searches
pub mod Long
pub mod OneWord
pub mod Turns
pub mod Calls
mod Witnesses

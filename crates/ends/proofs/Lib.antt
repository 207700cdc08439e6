-- Laws of words' ends: one word's turn, and the call.
pub mod SoundEnds
pub mod Found
pub mod EndOf
pub mod Rise
pub mod OneWord
pub mod Turns
pub mod Calls
mod Witnesses

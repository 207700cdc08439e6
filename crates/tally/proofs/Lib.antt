-- Laws of the tally, and the call in plain words.
pub mod Frames
pub mod Sums
pub mod Calls
mod Witnesses

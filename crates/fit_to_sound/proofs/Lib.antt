-- Laws of words fitted to their sound: the steps in a row, and the call.
pub mod Starts
pub mod Rise
pub mod StartsKept
mod Silence
mod EndTurns
pub mod EndsKept
mod Turns
pub mod Calls
pub mod Kept
mod Witnesses

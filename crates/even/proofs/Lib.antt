-- Laws of evening.
pub mod Stretches
pub mod Runs
pub mod Turns
pub mod Unchanged
pub mod Calls
mod Witnesses

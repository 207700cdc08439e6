-- The full run: its promises in plain words, and what the code makes.
pub mod Promises
pub mod Made
pub mod Runs
mod Witnesses

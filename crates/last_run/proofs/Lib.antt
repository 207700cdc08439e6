-- Laws of the last run, and the call in plain words.
pub mod Steps
pub mod Between
pub mod Rules
pub mod Exact
pub mod Promises
mod Witnesses

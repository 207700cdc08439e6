-- Laws of the fit by phrase, and the call in plain words.
pub mod Members
pub mod Local
pub mod Turns
pub mod Kept
mod Phrases
pub mod Calls
mod Witnesses

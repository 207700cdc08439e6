-- Laws of the placing in phrases.
pub mod InPlace
pub mod Joined
pub mod Facts
pub mod Made
pub mod Calls
pub mod Answered
mod Witnesses

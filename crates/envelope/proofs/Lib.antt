-- Laws of levels, floor and loud frames, and the calls in plain words.
pub mod Places
pub mod Fours
pub mod Floors
pub mod Answers
pub mod Limits
pub mod Loudness
pub mod Promises
mod Witnesses
pub mod Scan

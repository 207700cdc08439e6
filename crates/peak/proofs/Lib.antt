-- Laws of a number without its sign, of the largest one in a range of samples, and the call in plain words.
mod Unsigned
mod Ranges
mod Ends
mod Extremes
mod Limits
pub mod Promises
mod Witnesses

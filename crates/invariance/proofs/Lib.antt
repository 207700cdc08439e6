-- What a change of loudness by a power of two, or of polarity, leaves as it is. The theorems are in Rows; other crates may cite them.
mod Lists
mod Rounding
mod Twin
mod Compare
mod Infinite
mod Floor
mod Sizes
mod Samples
mod Levels
pub mod Rows
mod Example
pub mod Alone
pub mod Phrases
mod Fitted
pub mod FullRun
pub mod Demand3
mod FullExample

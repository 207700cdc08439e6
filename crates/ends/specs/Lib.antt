-- Ends moved to where the sound stops.
pub mod Ends
pub mod Parts

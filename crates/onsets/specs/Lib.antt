-- Starts moved to where the sound rises.
pub mod Onsets
pub mod Parts

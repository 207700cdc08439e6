-- Loops collapsed to their first copy.
pub mod Loops
pub mod Parts

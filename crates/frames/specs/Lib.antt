-- Frames and seconds.
pub mod Frames
pub mod Parts

-- Levels, floor, loud and quiet frames; the call.
pub mod Envelope
pub mod Frames
pub mod Parts
pub mod Sound

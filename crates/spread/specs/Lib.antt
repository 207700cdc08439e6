-- The words of one phrase placed in its span.
pub mod Spread
pub mod Parts

-- Tails of sound handed back to the word before.
pub mod Tails
pub mod Parts

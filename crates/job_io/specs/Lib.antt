-- A job read from standard input.
pub mod Answers
pub mod Parts
pub mod Buffers

-- Pieces of a recording, cut in its quiet.
pub mod Pieces
pub mod Parts

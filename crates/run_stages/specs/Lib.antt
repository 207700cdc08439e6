-- A full run after its levels.
pub mod Stages
pub mod Parts

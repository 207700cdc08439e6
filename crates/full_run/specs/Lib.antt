-- The full run.
pub mod FullRun
pub mod Parts

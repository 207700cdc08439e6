-- The last run of sound between two times.
pub mod LastRun
pub mod Exact
pub mod Parts

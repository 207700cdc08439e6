-- Laws of the writers.
pub mod Places
pub mod Writing
mod Cases

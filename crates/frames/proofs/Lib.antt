-- Laws of frames. Other crates cite those of `Signed` and `Indices`.
pub mod Signed
mod Rounding
mod Times
pub mod Indices

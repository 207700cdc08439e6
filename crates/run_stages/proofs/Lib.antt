-- Laws of a full run after its levels.
mod Row
pub mod Places
mod Stages
mod Left

-- Laws of snap_onsets.
pub mod Starts
pub mod Calls
mod Witnesses

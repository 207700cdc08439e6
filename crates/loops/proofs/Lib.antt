-- Laws of the loops.
pub mod Drained
pub mod Runs
pub mod Copies
pub mod Held
pub mod InPlace
pub mod Found
pub mod Whole
pub mod Kept
pub mod Rules
pub mod Promises
pub mod Witnesses

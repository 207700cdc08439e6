-- Laws of the share-out.
pub mod Sums
pub mod Long
pub mod Rounded
pub mod Parts
pub mod Portion
pub mod Steps
pub mod Boundaries
pub mod Rooms
pub mod Drift
pub mod Between

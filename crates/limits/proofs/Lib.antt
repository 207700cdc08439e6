-- Laws of the tests behind the refusals.
pub mod Finite
pub mod Any
pub mod Joined

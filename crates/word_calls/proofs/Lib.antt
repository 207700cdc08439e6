-- Laws of the calls on words.
pub mod Within
pub mod Differ
pub mod Moved

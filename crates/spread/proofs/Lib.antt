-- Laws of the words of one phrase.
pub mod InsideSpan
pub mod Sides
pub mod Around
pub mod Long
pub mod Groups
pub mod Untouched

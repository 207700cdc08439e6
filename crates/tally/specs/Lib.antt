-- The loud frames under each span's words.
pub mod Tally
pub mod Parts

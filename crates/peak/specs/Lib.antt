-- The largest magnitude under a word.
pub mod Peak

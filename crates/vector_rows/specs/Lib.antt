-- What the numbers of a row are, and how rows are counted.
pub mod Numbers
pub mod Counts

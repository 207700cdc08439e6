-- What every contract of Qiluvrait can cite: Rust's loops, the lists of words and spans, refusals and their order.
pub mod Whole
pub mod Loop
pub mod Words
pub mod WordLists
pub mod Spans
pub mod SpanList
pub mod TimedWords
pub mod WordListsMut
pub mod Parts
pub mod Floats
pub mod Refusals

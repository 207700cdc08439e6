-- A time shared out by letters.
pub mod Share
pub mod Drifts

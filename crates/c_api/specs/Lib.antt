-- The answers of the calls, as the C face gives them.
pub mod Answers

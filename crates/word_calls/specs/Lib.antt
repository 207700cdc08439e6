-- What calls on words take, what they test, and what those answer and leave that move only times.
pub mod Within
pub mod Calls

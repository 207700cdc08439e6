-- Laws of the printed text.
pub mod Printing
pub mod Answers
pub mod Streaming
pub mod Promises
pub mod Places
pub mod Files
pub mod Front
pub mod Refused

-- Laws of a job that is read.
pub mod Taking
pub mod Hearing
pub mod Reading
pub mod Promises

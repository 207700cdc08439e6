-- What the program prints for a job file.
pub mod Printed
pub mod Came
pub mod Parts

-- Numbers as text, and the lines that the program prints.
pub mod Text
pub mod Parts

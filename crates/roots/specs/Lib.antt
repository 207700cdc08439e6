-- IEEE 754's square root, and what the code's parts promise each other.
pub mod Sqrt
pub mod Parts
pub mod Nearest

-- How large a time can be, and which bits stand for it.
pub mod Bounds
pub mod Bits

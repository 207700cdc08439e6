-- The tests behind the refusals, and their order.
pub mod Limits
pub mod Order
pub mod Parts

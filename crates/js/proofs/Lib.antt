-- Laws of Math.min, Math.max and toFixed.
pub mod ToFixed
pub mod Order
mod Patterns
mod Choice
mod Mirror

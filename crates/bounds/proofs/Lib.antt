-- How far times can go.
pub mod Rounding
pub mod Seconds
pub mod Stored
pub mod Tailing
pub mod Onsetting
pub mod PartWay
pub mod Ending
pub mod Parted
pub mod Sharing
pub mod Placing
pub mod Sides
pub mod Evening
pub mod Fitting
pub mod Phrasing
pub mod Small
pub mod Running
pub mod InBits

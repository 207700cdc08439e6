-- Laws that the crates' proofs share.
pub mod Loops
pub mod Searches
pub mod Lists
pub mod Parts
pub mod Cleared
pub mod First
pub mod Compare
pub mod Bits
pub mod Units
pub mod Signs
pub mod Near
pub mod Values
pub mod Most

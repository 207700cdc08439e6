-- The number functions of ECMAScript that the word times rest on.
pub mod Js
pub mod Sizes

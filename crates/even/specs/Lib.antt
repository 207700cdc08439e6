-- Crushed words, and the time they get.
pub mod Even
pub mod WeighedWords

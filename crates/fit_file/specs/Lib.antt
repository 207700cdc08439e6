-- The fit by phrase.
pub mod FitFile
pub mod Parts
pub mod PhrasedWords

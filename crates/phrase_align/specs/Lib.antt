-- Words placed in the spans of their phrases.
pub mod PhraseAlign
pub mod Parts
pub mod Placed

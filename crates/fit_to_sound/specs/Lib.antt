-- Words fitted to their sound.
pub mod FitToSound
pub mod Parts

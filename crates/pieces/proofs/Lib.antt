-- Laws of the pieces.
pub mod Cuts
pub mod CutParts
pub mod Walk
pub mod Passes
pub mod Rules
pub mod Calls

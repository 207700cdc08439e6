-- The worked examples that document 01 marks with ●, and examples for further sentences of it, as equations about the definitions.
pub mod Table

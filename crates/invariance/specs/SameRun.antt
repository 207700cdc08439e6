-- Document 01's "What demand 3 compares", of the full run: what is given alike, and what is equal after two accepted runs. Assumes nothing.
use Rattle.std.specs.Prelude.{ℕ, ◌<◌, ◌≡◌, get_or}
use Rattle.full_run.specs.FullRun.{Input, Output}
use Rattle.full_run.specs.declared.Report.{Report}

-- ---- "words, spans and phrase places are alike; what the other lent places hold, and how many of them exceed the need, may differ."
pub record AlikeRuns (a b : Input) : Type 0 where
  pub words : a.words ≡ b.words
  pub spans : a.spans ≡ b.spans
  pub phrases : a.phrases ≡ b.phrases

-- ---- "Equal are the piece count, each piece's first sample and end, the final word count, `found`, all phrase places and all bits of every word's place."
-- The floor, the levels and the places past the pieces may differ. A word's place has its start, end, letters, units and key.
pub record SameRun (r r' : Report) (a b : Output) : Type 0 where
  pub piece-count : r.pieces ≡ r'.pieces
  pub first-samples : (k : ℕ) → k < r.pieces → get_or a.piece_starts k 0 ≡ get_or b.piece_starts k 0
  pub ends : (k : ℕ) → k < r.pieces → get_or a.piece_ends k 0 ≡ get_or b.piece_ends k 0
  pub word_count : r.words ≡ r'.words
  pub found : r.found ≡ r'.found
  pub phrase-places : a.phrases ≡ b.phrases
  pub word-places : a.words ≡ b.words

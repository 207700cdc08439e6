-- What only the contracts of the writers cite; a reader of the printed text may skip it. Assumes nothing.
use Rattle.std.specs.Prelude.{ℕ, ◌+◌, ◌<◌, ◌≡◌, not, List, ◌++◌, T, length, take, get_or, Float}
use Rattle.job_text.specs.declared.writer.Writer.{Writer}
use Rattle.std.specs.Float.{nan}
use Rattle.std.specs.Float.Ieee.{is_nan}

-- ---- Text was written from the place that the writer had come to, and what stood before it stays: the same places, and as many.
pub record Wrote (text : List ℕ) (before after : Writer) : Type 0 where
  pub same : before.bytes.ghost_name ≡ after.bytes.ghost_name
  pub places : length after.bytes.now ≡ length before.bytes.now
  pub end : after.at ≡ before.at + length text
  pub here : take after.at after.bytes.now ≡ take before.at before.bytes.now ++ text

-- ---- The same of lists and places: text was written from place `at` to before place r, and what stood before it stays.
pub record WroteAt (text : List ℕ) (at : ℕ) (before after : List ℕ) (r : ℕ) : Type 0 where
  pub end : r ≡ at + length text
  pub here : take r after ≡ take at before ++ text

-- ---- None of the first n times is a NaN.
abbrev pub NoNans : ℕ → List Float → Type 0
NoNans n xs = (i : ℕ) → i < n → T (not (is_nan (get_or xs i nan)))

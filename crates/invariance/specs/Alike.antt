-- Document 01's "What demand 3 compares", of the fit by phrase: when an envelope is a recording's own, and when a phrase is given alike to two calls.
-- Assumes nothing.
use Rattle.std.specs.Prelude.{ℕ, ◌<◌, ◌≤◌, ◌≡◌, ◌↔◌, List, length, get_or, Float}
use Rattle.std.specs.Float.{nan}
use Rattle.base.specs.Words.{Words, Spans}
use Rattle.envelope.specs.Envelope.{levels, floor}

-- ---- "an envelope is a recording's own when its levels, floor and sample count are those that the section on levels gives for its samples"
pub record Own (samples : List Float) (ls : List Float) (f : Float) (count : ℕ) : Type 0 where
  pub levels-are : ls ≡ levels samples
  pub floor-is : f ≡ floor (levels samples)
  pub count-is : count ≡ length samples

-- ---- The word at a place: its two times, letters, units and key.
pub record Word : Type 0 where
  pub start : Float
  pub end : Float
  pub letters : ℕ
  pub units : ℕ
  pub key : ℕ

unfoldable pub word_at : Words → ℕ → Word
word_at ws i = record {
  start = get_or ws.starts i nan;
  end = get_or ws.ends i nan;
  letters = get_or ws.letters i 0;
  units = get_or ws.units i 0;
  key = get_or ws.keys i 0;
}

-- ---- "A phrase is a number; its words are those bearing it, its span the one at that number, if there is one. It is given alike when these have the same
-- bits in both calls". What a span counts may differ.
pub record GivenAlike (phrases : List ℕ) (p : ℕ) (ws ws' : Words) (spans spans' : Spans) : Type 0 where
  pub words : (i : ℕ) → i < length phrases → get_or phrases i 0 ≡ p → word_at ws i ≡ word_at ws' i
  pub span-there : (p < length spans.starts) ↔ (p < length spans'.starts)
  pub span-start : p < length spans.starts → get_or spans.starts p nan ≡ get_or spans'.starts p nan
  pub span-end : p < length spans.starts → get_or spans.ends p nan ≡ get_or spans'.ends p nan

-- ---- "A phrase number without a span": that of the word at place i.
abbrev pub Spanless : Spans → List ℕ → ℕ → Type 0
Spanless spans phrases i = length spans.starts ≤ get_or phrases i 0

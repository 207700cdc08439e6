-- Document 01, "Placing in phrases", of an accepted call: what is true of each word kept, and what else the call leaves. Assumes nothing.
use Rattle.std.specs.Prelude.{ℕ, suc, ◌-◌, ◌≤◌, ◌<◌, ◌≡◌, true, List, ◌++◌, get_or, take, drop, replicate}
use Rattle.std.specs.Float.{nan}
use Rattle.base.specs.Words.{Words, Spans, edges, times_at, count, in_places, zero_f}
use Rattle.base.specs.declared.Times.{Times}
use Rattle.share.specs.Share.{sum}
use Rattle.spread.specs.Spread.{inside}

-- ---- A word's two times, of all five lists.
abbrev pub word_times : Words → ℕ → Times
word_times ws i = times_at (edges ws.starts ws.ends) i

-- ---- "Spans take their counts of words in order until words run out; each word kept gets its span's number, from 0, as its phrase number":
-- what is true of the placed word i, whose phrase number is p, after the spans before q. A word inside its span keeps both its times.
pub record PlacedWord (all : Words) (spans : Spans) (q p i : ℕ) (after : Times) : Type 0 where
  pub number : p < q
  pub from : sum (take p spans.counts) ≤ i
  pub before : i < sum (take (suc p) spans.counts)
  pub inside-keeps : inside (get_or spans.starts p nan) (get_or spans.ends p nan) (word_times all i) ≡ true → after ≡ word_times all i

-- ---- "Surplus words are dropped, and the places past the new count, up to the old one, become zero, phrase numbers too"; "further ones stay".
-- Letters, units and keys of the words kept stay.
pub record Leaves (ws : Words) (phrases : List ℕ) (n : ℕ) (ended : Words) (numbers : List ℕ) : Type 0 where
  pub letters : ended.letters ≡ in_places 0 (count ws) (take n ws.letters)
  pub units : ended.units ≡ in_places 0 (count ws) (take n ws.units)
  pub keys : ended.keys ≡ in_places 0 (count ws) (take n ws.keys)
  pub starts-dropped : drop n ended.starts ≡ replicate (count ws - n) zero_f
  pub ends-dropped : drop n ended.ends ≡ replicate (count ws - n) zero_f
  pub numbers-dropped : drop n numbers ≡ replicate (count ws - n) 0 ++ drop (count ws) phrases

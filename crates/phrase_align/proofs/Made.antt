-- What the code leaves: the words placed, zeros behind them, and their count. Assumes nothing.
use Rattle.std.specs.Prelude.{Ok}
use Prim.Native.Nat.{ℕ, ◌-◌, ◌≤◌}
use mathlib.Core.Path.{◌≡◌}
use mathlib.Core.List.{List}
use lib.ListN.{length, replicate}
use lib.Ieee.{Float}
use Rattle.base.specs.Words.{Words, words, Spans, count, with_part, words_in_places}
use Rattle.base.specs.Parts.{OneLength, first_words}
use Rattle.phrase_align.specs.PhraseAlign.{align_phrases, in_their_places, output, accepted}
use Rattle.phrase_align.specs.Parts.{held, held_spans}
use Rattle.phrase_align.proofs.Joined.{words_are, numbers-are, counted}

module _ (all : Words) (even : OneLength (count all) all) (phrases : List ℕ) (room : count all ≤ length phrases)
    (spans : Spans) (l : length spans.counts ≡ length spans.starts) {s e : List Float} {f : List ℕ} {r : ℕ}
    (is : held s e f r ≡ held_spans all.letters spans (held all.starts all.ends phrases 0)) (most : r ≤ count all) where
  pub placed-made : {ws : Words} {g : List ℕ} → g ≡ with_part r (count all) f (replicate (count all - r) 0)
      → ws ≡ words_in_places (count all) (first_words r (words s e all.letters all.units all.keys)) → output (Ok r) ws g ≡ accepted (align_phrases all spans) (count all) phrases
  unfolding in_their_places
  placed-made p q =
      rw (p, q, words_are all even phrases room spans l is most, numbers-are all even phrases room spans l is most, counted all even phrases room spans l is most)

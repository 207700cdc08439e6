-- The words that loops left stand in the first places; there the other stages run, and what they leave stands in all places. Assumes nothing.
use Prim.Native.Nat.{ℕ, ◌≤◌}
use mathlib.Core.Path.{◌≡◌, sym, ap, subst, ◌∙◌}
use mathlib.Core.Bool.{Bool}
use mathlib.Core.List.{List}
use native.Mathlib.Omega.{arith}
use lib.ListN.{length}
use lib.Ieee.{Float}
use Rattle.base.specs.Words.{Words, words, Spans, count, part, with_part, in_places, words_in_places, zero_f}
use Rattle.base.specs.Parts.{OneLength}
use Rattle.base.proofs.Cleared.{words-alike}
use Rattle.pieces.specs.Pieces.{pieces, piece_count}
use Rattle.pieces.specs.Parts.{starts_over, ends_over}
use Rattle.pieces.proofs.Walk.{piece_count-is}
use Rattle.loops.specs.Loops.{collapse_loops}
use Rattle.loops.specs.Parts.{Collapsing}
use Rattle.loops.specs.declared.Left.{Left}
use Rattle.loops.proofs.Found.{never-more}
use Rattle.loops.proofs.Whole.{left-even}
use Rattle.loops.proofs.Kept.{left-letters}
use Rattle.fit_file.specs.FitFile.{duration_of}
use Rattle.run_stages.specs.Stages.{Settled, snapped, settled, run_on}
use Rattle.run_stages.specs.Parts.{Ready, FewLetters, Settling, Running}
use Rattle.run_stages.proofs.Places.{places-first, places-more}

module _ (ws : Words) (even : OneLength (count ws) ws) {left : Left} {after : Words} (made : Collapsing left ws after) where
  abbrev kept : Words
  kept = (collapse_loops ws).words

  kept-even : OneLength left.count kept
  kept-even = subst (λ (n : ℕ). OneLength n kept) (sym made.count) (left-even ws even)

  -- ---- no more words than before
  pub fewer : left.count ≤ count ws
  fewer = omega (arith, made.count, never-more ws)

  -- the first places of a list
  abbrev first_part : {A : Type 0} → List A → List A
  first_part xs = part 0 left.count xs

  abbrev first_parts : Words
  first_parts = words (first_part after.starts) (first_part after.ends) (first_part after.letters) (first_part after.units) (first_part after.keys)

  -- ---- the first places hold the words that are left
  parts_are : first_parts ≡ kept
  unfolding words_in_places
  parts_are =
      let n = left.count in
      let m = count ws in
      rw made.words
      (words-alike (places-first zero_f m n kept.starts kept-even.0) (places-first zero_f m n kept.ends kept-even.1.0) (places-first 0 m n kept.letters kept-even.1.1.0)
      (places-first 0 m n kept.units kept-even.1.1.1.0) (places-first 0 m n kept.keys kept-even.1.1.1.1))

  -- ---- and those have what the other stages require
  fewest : {n : ℕ} → count ws ≤ n → count kept ≤ n
  fewest h = omega (arith, never-more ws, h)

  pub left-ready : {phrases a b d : ℕ} → Ready ws phrases a b d → FewLetters ws.letters → Ready first_parts phrases a b d × FewLetters first_parts.letters
  left-ready {phrases} {a} {b} {d} (same, (few, (numbers, (wa, (wb, wd))))) letters =
      subst (λ (v : Words). Ready v phrases a b d × FewLetters v.letters) (sym parts_are)
      ((left-even ws even, (fewest few, (fewest numbers, (fewest wa, (fewest wb, fewest wd))))), left-letters 1000 ws letters)

  module _ {final : Settled} {n : ℕ} {s e : List Float} {l u k numbers : List ℕ} (settling : Settling final (length first_parts.keys) n (words s e l u k) numbers)
      (ls : length s ≡ length first_parts.starts) (le : length e ≡ length first_parts.ends) (ll : length l ≡ length first_parts.letters) (lu : length u ≡ length first_parts.units)
      (lk : length k ≡ length first_parts.keys) where
    first-long : OneLength left.count first_parts
    first-long = subst (λ (v : Words). OneLength left.count v) (sym parts_are) kept-even

    -- what the stages left, list by list
    settled-words : words s e l u k ≡ words_in_places left.count final.words
    settled-words = settling.words ∙ ap (λ (m : ℕ). words_in_places m final.words) first-long.1.1.1.1

    back : {A : Type 0} (none : A) (xs ys zs : List A) → length xs ≡ left.count → zs ≡ in_places none left.count ys → length zs ≡ left.count
        → with_part 0 left.count (in_places none (count ws) xs) zs ≡ in_places none (count ws) ys
    back none xs ys zs l h k = rw h (places-more none (count ws) left.count xs ys l (ap (λ (vs : List _). length vs) (sym h) ∙ k) fewer)

    -- ---- all places
    pub all-places : Settling final (count ws) n (words (with_part 0 left.count after.starts s) (with_part 0 left.count after.ends e) (with_part 0 left.count after.letters l) (with_part 0 left.count after.units u) (with_part 0 left.count after.keys k)) numbers
    unfolding words_in_places
    all-places = record {
      words =
          rw made.words
          (words-alike
          (back zero_f kept.starts final.words.starts s kept-even.0 (ap (λ (v : Words). v.starts) settled-words) (ls ∙ first-long.0))
          (back zero_f kept.ends final.words.ends e kept-even.1.0 (ap (λ (v : Words). v.ends) settled-words) (le ∙ first-long.1.0))
          (back 0 kept.letters final.words.letters l kept-even.1.1.0 (ap (λ (v : Words). v.letters) settled-words) (ll ∙ first-long.1.1.0))
          (back 0 kept.units final.words.units u kept-even.1.1.1.0 (ap (λ (v : Words). v.units) settled-words) (lu ∙ first-long.1.1.1.0))
          (back 0 kept.keys final.words.keys k kept-even.1.1.1.1 (ap (λ (v : Words). v.keys) settled-words) (lk ∙ first-long.1.1.1.1)));
      count = settling.count;
      phrases = settling.phrases;
    }

  -- ---- loops, then the other stages on what they left
  pub words-run : {n : ℕ} {s e : List Float} {l u k numbers : List ℕ} (row : List Bool) (duration : Float) (spans : Spans) (phrases : List ℕ)
      → Settling (settled row duration spans phrases (snapped row duration first_parts)) (length first_parts.keys) n (words s e l u k) numbers
      → length s ≡ length first_parts.starts → length e ≡ length first_parts.ends → length l ≡ length first_parts.letters → length u ≡ length first_parts.units
      → length k ≡ length first_parts.keys
      → Settling (settled row duration spans phrases (snapped row duration kept)) (count ws) n (words (with_part 0 left.count after.starts s) (with_part 0 left.count after.ends e) (with_part 0 left.count after.letters l) (with_part 0 left.count after.units u) (with_part 0 left.count after.keys k)) numbers
      × (left.found ≡ (collapse_loops ws).found)
  words-run {n} {s} {e} {l} {u} {k} {numbers} row duration spans phrases settling ls le ll lu lk = (
    subst (λ (v : Words). Settling (settled row duration spans phrases (snapped row duration v)) (count ws) n (words (with_part 0 left.count after.starts s) (with_part 0 left.count after.ends e) (with_part 0 left.count after.letters l) (with_part 0 left.count after.units u) (with_part 0 left.count after.keys k)) numbers) parts_are
        (all-places settling ls le ll lu lk),
    made.found,
  )

-- ---- the pieces and the words
pub run_is : {n : ℕ} {d : Float} {left : Left} {after : Words} {numbers starts₀ ends₀ starts ends : List ℕ} (loud quiet : List Bool) (samples : ℕ) (spans : Spans) (phrases : List ℕ) (ws : Words)
    → n ≡ piece_count quiet → (starts ≡ starts_over (pieces quiet samples) starts₀) × (ends ≡ ends_over (pieces quiet samples) ends₀) → d ≡ duration_of samples
    → Settling (settled loud d spans phrases (snapped loud d (collapse_loops ws).words)) (count ws) left.count after numbers × (left.found ≡ (collapse_loops ws).found)
    → Running (run_on loud quiet samples spans phrases ws) (count ws) (record { pieces = n; words = left.count; found = left.found }) after numbers starts₀ ends₀ starts ends
unfolding run_on
run_is {n} {d} {left} {after} {numbers} {starts₀} {ends₀} {starts} {ends} loud quiet samples spans phrases ws en (es, ee) ed (settling, found) =
    let placed = subst (λ (t : Float). Settling (settled loud t spans phrases (snapped loud t (collapse_loops ws).words)) (count ws) left.count after numbers) ed settling in
    record {
      pieces = en ∙ sym (piece_count-is quiet samples);
      count = placed.count;
      found = found;
      words = placed.words;
      phrases = placed.phrases;
      piece-starts = es;
      piece-ends = ee;
    }

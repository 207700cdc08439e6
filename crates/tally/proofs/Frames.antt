-- The loud frames under a word are those from one index to before another. By going through the row: a frame before
-- the word or past it changes nothing. A word that ends no later than it starts has none. Assumes nothing.
use Prim.Native.Nat.{ℕ, zero, suc, ◌+◌, ◌-◌, ◌<◌, ◌≤◌, min}
use mathlib.Core.Bool.{Bool, true, false, cond, ◌&&◌}
use mathlib.Core.List.{List}
use mathlib.Core.Path.{◌≡◌, refl, sym, ap, ◌∙◌}
use native.Mathlib.Omega.{arith}
use native.Mathlib.Numerals.{add-one}
use borrow.Author.Tests.{ltb-true, ltb-false, lt-ltb, le-ltb, le-leb, lt-leb}
use lib.Dec.{leb, ltb}
use lib.ListN.{length, get_or}
use lib.Ieee.{Float}
use Rattle.base.specs.Whole.{to_nat}
use Rattle.base.specs.Loop.{each}
use Rattle.base.specs.Words.{times}
use Rattle.base.specs.declared.Times.{Times}
use Rattle.base.proofs.Loops.{each_last}
use Rattle.frames.specs.Frames.{frame_at}
use Rattle.frames.proofs.Indices.{from_zero-nat}
use Rattle.envelope.specs.Envelope.{loud_row}
use Rattle.envelope.proofs.Scan.{length-row}
use Rattle.tally.specs.Tally.{covers, cover_turn, loud_under, start_frame, end_frame}
use Rattle.tally.specs.Parts.{loud_turn, loud_between}

-- ---- the loud frames from lo on
module _ (row : List Bool) (lo : ℕ) where
  pub between_none : (hi : ℕ) → hi ≤ lo → loud_between row lo hi ≡ 0
  unfolding loud_between each
  between_none hi h = let z : hi - lo ≡ 0 = omega arith in rw z

  pub between_next : (k : ℕ) → lo ≤ k → loud_turn row k (loud_between row lo k) ≡ loud_between row lo (k + 1)
  unfolding loud_between
  between_next k h =
      let s : k + 1 - lo ≡ suc (k - lo) = omega arith in
      let z : lo + (k - lo) ≡ k = omega arith in
      rw s (sym (rw z at (each_last (loud_turn row) (k - lo) lo 0)))

-- ---- the code's turn, by what it found of the frame
module _ (row : List Bool) (k n : ℕ) {b : Bool} {m : ℕ} (is : b ≡ get_or row k false) where
  pub turn-loud : b ≡ true → m ≡ n + 1 → m ≡ loud_turn row k n
  unfolding loud_turn
  turn-loud h e = rw (← is, h, e) (add-one n)

  pub turn-quiet : b ≡ false → m ≡ n → m ≡ loud_turn row k n
  unfolding loud_turn
  turn-quiet h e = rw (← is, h, e)

-- ---- a frame's turn, by whether the word lies over it
module _ (row : List Bool) (w : Times) (k n : ℕ) where
  inside : start_frame w ≤ k → k < end_frame w → cover_turn row w k n ≡ loud_turn row k n
  unfolding cover_turn covers loud_turn
  inside a b = rw (le-leb (start_frame w) k a, lt-ltb k (end_frame w) b) (go (get_or row k false)) where
    go : (t : Bool) → cond (t && true) (suc n) n ≡ cond t (suc n) n
    go true = refl
    go false = refl

  nothing : (t : Bool) → cond (t && false) (suc n) n ≡ n
  nothing true = refl
  nothing false = refl

  before : k < start_frame w → cover_turn row w k n ≡ n
  unfolding cover_turn covers
  before h = rw (lt-leb (start_frame w) k h) (nothing (get_or row k false))

  behind : end_frame w ≤ k → cover_turn row w k n ≡ n
  unfolding cover_turn covers
  behind h = rw (le-ltb k (end_frame w) h) (go (leb (start_frame w) k)) where
    go : (t : Bool) → cond (get_or row k false && (t && false)) (suc n) n ≡ n
    go true = nothing (get_or row k false)
    go false = nothing (get_or row k false)

-- ---- the first m frames of the row
module _ (row : List Bool) (w : Times) {lo hi : ℕ} (is-lo : lo ≡ start_frame w) (is-hi : hi ≡ min (length row) (end_frame w)) where
  under_first : (m : ℕ) → m ≤ length row → each (cover_turn row w) m 0 0 ≡ loud_between row lo (min m hi)
  unfolding each
  under_first zero h = sym (between_none row lo (min 0 hi) (omega arith))
  under_first (suc m) h =
      let z : 0 + m ≡ m = omega arith in
      rw z at (each_last (cover_turn row w) m 0 0) ∙ ap (cover_turn row w m) (under_first m (omega arith)) ∙ go (ltb m lo) (ltb m hi) refl refl where
        go : (s t : Bool) → ltb m lo ≡ s → ltb m hi ≡ t → cover_turn row w m (loud_between row lo (min m hi)) ≡ loud_between row lo (min (suc m) hi)
        go true t p q =
            let l = ltb-true m lo p in
            before row w m (loud_between row lo (min m hi)) (omega arith) ∙ between_none row lo (min m hi) (omega arith) ∙ sym (between_none row lo (min (suc m) hi) (omega arith))
        go false true p q =
            let l = ltb-false m lo p in
            let g = ltb-true m hi q in
            let a : min m hi ≡ m = omega arith in
            let b : min (suc m) hi ≡ m + 1 = omega arith in
            rw (a, b) (inside row w m (loud_between row lo m) (omega arith) (omega arith) ∙ between_next row lo m l)
        go false false p q =
            let g = ltb-false m hi q in
            let a : min (suc m) hi ≡ min m hi = omega arith in
            rw a (behind row w m (loud_between row lo (min m hi)) (omega arith))

  under-between : loud_under row w ≡ loud_between row lo hi
  unfolding loud_under
  under-between = let z : min (length row) hi ≡ hi = omega arith in rw z at (under_first (length row) (omega arith))

-- ---- by what the code's parts give
module _ (floor : Float) (levels : List Float) (start end : Float) where
  pub under-made : {lo hi n : ℕ} → lo ≡ to_nat (frame_at start) → hi ≡ min (length levels) (to_nat (frame_at end))
      → n ≡ loud_between (loud_row floor levels) lo hi → n ≡ loud_under (loud_row floor levels) (times start end)
  under-made {lo} {hi} is-lo is-hi e =
      let r = length-row floor levels in
      let a = from_zero-nat start in
      let b = from_zero-nat end in
      e ∙ sym (under-between (loud_row floor levels) (times start end) (rw a is-lo) (rw (r, b) is-hi))

-- ---- an empty or reversed word counts nothing
pub under-empty : (row : List Bool) (w : Times) → end_frame w ≤ start_frame w → loud_under row w ≡ 0
unfolding loud_under each
under-empty row w h = none (length row) where
  none : (m : ℕ) → each (cover_turn row w) m 0 0 ≡ 0
  none zero = refl
  none (suc m) = let z : 0 + m ≡ m = omega arith in rw z at (each_last (cover_turn row w) m 0 0) ∙ ap (cover_turn row w m) (none m) ∙ go (ltb m (start_frame w)) refl where
    go : (t : Bool) → ltb m (start_frame w) ≡ t → cover_turn row w m 0 ≡ 0
    go true t = before row w m 0 (ltb-true m (start_frame w) t)
    go false t = let l = ltb-false m (start_frame w) t in behind row w m 0 (omega arith)

-- ---- no word has more loud frames than the row has
pub under-most : (row : List Bool) (w : Times) → loud_under row w ≤ length row
unfolding loud_under each cover_turn
under-most row w = most (length row) where
  most : (m : ℕ) → each (cover_turn row w) m 0 0 ≤ m
  most zero = omega arith
  most (suc m) = let z : 0 + m ≡ m = omega arith in rw (rw z at (each_last (cover_turn row w) m 0 0)) (go (get_or row m false && covers w m) (most m)) where
    go : (t : Bool) {n : ℕ} → n ≤ m → cond t (suc n) n ≤ suc m
    go true h = omega arith
    go false h = omega arith

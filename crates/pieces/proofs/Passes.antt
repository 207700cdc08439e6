-- The code's two passes, one that counts the pieces and one that writes them. By one idea: what is done, with the pieces that are left, is the whole.
-- Assumes nothing.
use Prim.Native.Nat.{ℕ, ◌+◌, ◌-◌, ◌<◌, ◌≤◌}
use mathlib.Core.Bool.{Bool}
use mathlib.Core.List.{List, map}
use mathlib.Core.Path.{◌≡◌, refl, sym, ap, ◌∙◌}
use native.Mathlib.Omega.{arith}
use native.Mathlib.Nat.{zero-add}
use native.Mathlib.Numerals.{add-one}
use lib.ListN.{length, set, length-set, length-map}
use lib.Seq.{sets, sets-eq}
use lib.Ieee.{Float, le}
use Rattle.envelope.specs.Envelope.{quiet_row}
use Rattle.pieces.specs.Pieces.{max_frames, cut, Piece, over, pieces, piece_count, need, Ready}
use Rattle.pieces.proofs.Walk.{inner, final, left, left-past, left_near, left_far, left-some, pieces-left, count-needs}

pub quiet-length : (floor : Float) (levels : List Float) → length (quiet_row floor levels) ≡ length levels
unfolding quiet_row
quiet-length floor levels = length-map levels (λ v. le v floor)

-- ---- The counting pass: n pieces, and those that are left from a frame on.
module _ (row : List Bool) where
  pub record Counting (from n : ℕ) : Type 0 where
    pub is : piece_count row ≡ n + length (left row 0 from)

  pub counting-starts : Counting 0 0
  unfolding piece_count
  counting-starts = record { is = ap length (pieces-left row 0) ∙ sym (zero-add (length (left row 0 0))) }

  module _ (from n : ℕ) (c : Counting from n) where
    pub counting-next : {to : ℕ} → from + max_frames < length row → to ≡ cut row from → Counting to (n + 1)
    counting-next h e = let l = ap length (left_far row 0 from h) in let z = c.is in record { is = rw e (omega arith) }

    pub counting-last : from < length row → length row - from ≤ max_frames → n + 1 ≡ piece_count row
    counting-last h l = let k = ap length (left_near row 0 from h l) in omega arith

    pub counting-done : length row ≤ from → n ≡ piece_count row
    counting-done h = let k = ap length (left-past row 0 from h) in omega arith

-- ---- The writing pass: the first n places of a list hold what f gives of their pieces; `was` is the list before.
module _ (row : List Bool) (count : ℕ) (f : Piece → ℕ) (was : List ℕ) where
  pub record Writing (from n : ℕ) (places : List ℕ) : Type 0 where
    pub kept : length places ≡ length was
    pub room : n + length (left row count from) ≤ length places
    pub is : over (map f (pieces row count)) was ≡ sets places n (map f (left row count from))

  pub writing-starts : length (pieces row count) ≤ length was → Writing 0 0 was
  writing-starts h = record { kept = refl; room = rw (zero-add, ← pieces-left row count) h; is = whole } where
    found : List ℕ
    found = map f (left row count 0)

    fits : 0 + length found ≤ length was
    fits = rw (zero-add, length-map, ← pieces-left row count) h

    whole : over (map f (pieces row count)) was ≡ sets was 0 found
    whole = rw (pieces-left row count) (sym (sets-eq found was 0 fits ∙ rw zero-add))

module _ {row : List Bool} {count : ℕ} {f : Piece → ℕ} {was : List ℕ} {from n : ℕ} {places : List ℕ} (w : Writing row count f was from n places) where
  pub writing-room : from < length row → n < length places
  writing-room h = let s = left-some row count from h in let r = w.room in omega arith

  pub writing-next : {to start : ℕ} → from + max_frames < length row → to ≡ cut row from → start ≡ f (inner row from)
      → Writing row count f was to (n + 1) (set places n start)
  writing-next {to} {start} h e s =
      let l = left_far row count from h in
      let k = ap length l in
      let r = w.room in
      record { kept = length-set places n start ∙ w.kept; room = rw (e, length-set) (omega arith); is = w.is ∙ rw (l, e, s, add-one) }

  pub writing-last : {start : ℕ} → from < length row → length row - from ≤ max_frames → start ≡ f (final row count from)
      → set places n start ≡ over (map f (pieces row count)) was
  writing-last h l s = sym (w.is ∙ rw (left_near row count from h l, s))

  pub writing-done : length row ≤ from → places ≡ over (map f (pieces row count)) was
  writing-done h = sym (w.is ∙ rw (left-past row count from h))

-- ---- The places that are lent are enough.
module _ (floor : Float) (levels : List Float) {count starts ends : ℕ} (r : Ready (length levels) count starts ends) where
  needed : length (pieces (quiet_row floor levels) count) ≤ need (length levels)
  needed = rw (quiet-length floor levels) at (count-needs (quiet_row floor levels) count)

  pub fits-starts : length (pieces (quiet_row floor levels) count) ≤ starts
  fits-starts = let n = needed in omega arith

  pub fits-ends : length (pieces (quiet_row floor levels) count) ≤ ends
  fits-ends = let n = needed in omega arith

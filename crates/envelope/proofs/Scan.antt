-- A search for a loud frame, or for one that is not, passes one frame more, upwards or from the back; what a comparison of two tests says; a row as long as its levels; and what such a search finds. Assumes nothing.
use Rattle.std.proofs.Common.{◌≡◌, ℕ, ◌+◌, ◌-◌, ◌<◌, ◌≤◌, Bool, true, false, not, ltb, List, length, pos, sym, refl, ◌∙◌, true≢false, arith, ltb-false, ltb-true}
use mathlib.Core.Bool.{beq}
use lib.ListN.{length-map, get_or-eq_default}
use lib.Ieee.{Float, lt}
use Rattle.std.specs.Prelude.{zero, suc, Some, None}
use Rattle.envelope.specs.Envelope.{loud, loud_row}
use Rattle.envelope.specs.Frames.{wanted, first_of, last_of}

pub beq-is : (a b : Bool) → beq a b ≡ true → a ≡ b
beq-is true true e = refl
beq-is false false e = refl
beq-is true false e = sym e
beq-is false true e = e

pub beq-not : (a b : Bool) → beq a b ≡ false → a ≡ not b
beq-not true true e = e
beq-not false false e = sym e
beq-not true false e = refl
beq-not false true e = refl

-- ---- a search passes one frame more
pub one_more : (row : List Bool) (b : Bool) (lo k : ℕ) → ((j : ℕ) → lo ≤ j → j < k → loud row (pos j) ≡ b) → loud row (pos k) ≡ b
    → (j : ℕ) → lo ≤ j → j < k + 1 → loud row (pos j) ≡ b
one_more row b lo k a e j p q = go (ltb j k) refl where
  go : (t : Bool) → ltb j k ≡ t → loud row (pos j) ≡ b
  go true t = a j p (ltb-true j k t)
  go false t = let l = ltb-false j k t in let z : j ≡ k = omega arith in rw z e

-- ---- a search from the back passes one frame more
pub one_less : (row : List Bool) (hi k : ℕ) → 0 < k → ((j : ℕ) → k ≤ j → j < hi → loud row (pos j) ≡ false) → loud row (pos (k - 1)) ≡ false
    → (j : ℕ) → k - 1 ≤ j → j < hi → loud row (pos j) ≡ false
one_less row hi k s a e j p q = go (ltb j k) refl where
  go : (t : Bool) → ltb j k ≡ t → loud row (pos j) ≡ false
  go true t = let l = ltb-true j k t in let z : j ≡ k - 1 = omega arith in rw z e
  go false t = a j (ltb-false j k t) q

-- ---- a frame past the row is not loud
pub loud-past : (row : List Bool) (k : ℕ) → length row ≤ k → loud row (pos k) ≡ false
loud-past row k h = get_or-eq_default row false h

-- so a loud frame lies in the row
pub loud-in : (row : List Bool) (k : ℕ) → loud row (pos k) ≡ true → k < length row
loud-in row k h = go (ltb k (length row)) refl where
  go : (t : Bool) → ltb k (length row) ≡ t → k < length row
  go true e = ltb-true k (length row) e
  go false e = absurd (true≢false (sym h ∙ loud-past row k (ltb-false k (length row) e)))

pub length-row : (floor : Float) (levels : List Float) → length (loud_row floor levels) ≡ length levels
unfolding loud_row
length-row floor levels = length-map levels (λ v. lt floor v)

-- ======== What the searches find

-- ---- a frame is wanted, or it is not, by whether it is loud
wanted-is : (row : List Bool) (want : Bool) (k : ℕ) → loud row (pos k) ≡ want → wanted row want k ≡ true
wanted-is row true k e = e
wanted-is row false k e = rw e refl

wanted-not : (row : List Bool) (want : Bool) (k : ℕ) → loud row (pos k) ≡ not want → wanted row want k ≡ false
wanted-not row true k e = e
wanted-not row false k e = rw e refl

-- ---- the first frame that is wanted, or none
pub first-some : (row : List Bool) (want : Bool) (n k j : ℕ) → k ≤ j → j < k + n → loud row (pos j) ≡ want → ((i : ℕ) → k ≤ i → i < j → loud row (pos i) ≡ not want)
    → Some j ≡ first_of row want n k
unfolding first_of
first-some row want zero k j low high e before = absurd (omega arith)
first-some row want (suc n) k j low high e before = go (λ l. first-some row want n (suc k) j l (omega arith) e (λ i p q. before i (omega arith) q)) (ltb k j) refl where
  go : (suc k ≤ j → Some j ≡ first_of row want n (suc k)) → (t : Bool) → ltb k j ≡ t → Some j ≡ first_of row want (suc n) k
  go more true t =
      let l = ltb-true k j t in
      rw (wanted-not row want k (before k (omega arith) l)) (more (omega arith))
  go more false t =
      let l = ltb-false k j t in
      let z : j ≡ k = omega arith in
      rw (z, wanted-is row want k (rw z at e)) refl

pub first-none : (row : List Bool) (want : Bool) (n k : ℕ) → ((i : ℕ) → k ≤ i → i < k + n → loud row (pos i) ≡ not want) → None ≡ first_of row want n k
unfolding first_of
first-none row want zero k none = refl
first-none row want (suc n) k none =
    rw (wanted-not row want k (none k (omega arith) (omega arith))) (first-none row want n (suc k) (λ i p q. none i (omega arith) (omega arith)))

-- ---- the last loud frame, or none
pub last-some : (row : List Bool) (n k j : ℕ) → k ≤ j → j < k + n → loud row (pos j) ≡ true → ((i : ℕ) → j + 1 ≤ i → i < k + n → loud row (pos i) ≡ false)
    → Some j ≡ last_of row n k
unfolding last_of
last-some row zero k j low high e after = absurd (omega arith)
last-some row (suc n) k j low high e after = go (λ l. last-some row n k j low l e (λ i p q. after i p (omega arith))) (ltb j (k + n)) refl where
  go : (j < k + n → Some j ≡ last_of row n k) → (t : Bool) → ltb j (k + n) ≡ t → Some j ≡ last_of row (suc n) k
  go more true t =
      let l = ltb-true j (k + n) t in
      rw (after (k + n) (omega arith) (omega arith)) (more l)
  go more false t =
      let l = ltb-false j (k + n) t in
      let z : j ≡ k + n = omega arith in
      rw (sym z, e) refl

pub last-none : (row : List Bool) (n k : ℕ) → ((i : ℕ) → k ≤ i → i < k + n → loud row (pos i) ≡ false) → None ≡ last_of row n k
unfolding last_of
last-none row zero k none = refl
last-none row (suc n) k none = rw (none (k + n) (omega arith) (omega arith)) (last-none row n k (λ i p q. none i p (omega arith)))

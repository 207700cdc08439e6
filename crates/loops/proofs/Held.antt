-- Where a pass stands: its tests and its search for copies, read off the keys in their places. Assumes nothing.
use Prim.Native.Nat.{ℕ, ◌+◌, ◌-◌, ◌*◌, ◌≤◌, ◌<◌}
use mathlib.Core.Path.{◌≡◌, sym, ap, ◌∙◌}
use mathlib.Core.Bool.{Bool, true, false}
use mathlib.Core.List.{List}
use native.Mathlib.Omega.{arith}
use borrow.Author.Tests.{le-leb, lt-leb}
use lib.Dec.{leb}
use lib.ListN.{length}
use Rattle.base.specs.Words.{count}
use Rattle.loops.specs.Loops.{min_copies, same, is_loop, copies_end}
use Rattle.loops.specs.Parts.{only_keys, held_keys, goes_on}
use Rattle.loops.proofs.Drained.{length-drained, part-front, part-back}
use Rattle.loops.proofs.Copies.{from, from_first, from_next, from-stop, from_past}

-- ---- The end of the copies, for a search that stands at place `end`.
unfoldable pub copies_from : List ℕ → ℕ → ℕ → ℕ → ℕ → ℕ
copies_from keys n i rest end = from n (held_keys (i + n) rest keys) i (i + n + (end - rest))

module _ (keys : List ℕ) (n i rest : ℕ) (room : i + n ≤ rest) (inside : rest ≤ length keys) where
  pub held-count : count (held_keys (i + n) rest keys) ≡ i + n + (length keys - rest)
  unfolding held_keys
  held-count = length-drained keys (i + n) rest (omega arith)

  held_same : (j : ℕ) → same n (held_keys (i + n) rest keys) i (i + n + j) ≡ same n (only_keys keys) i (rest + j)
  unfolding same held_keys
  held_same j =
      let f : i + n ≤ length keys = omega arith in
      rw (part-front keys (i + n) rest f i n (omega arith), part-back keys (i + n) rest f j n)

  -- a run is the same in the keys and where the pass stands
  held_at : (at : ℕ) {t : Bool} → rest ≤ at → t ≡ same n (only_keys keys) i at → same n (held_keys (i + n) rest keys) i (i + n + (at - rest)) ≡ t
  held_at at l e = let z : rest + (at - rest) ≡ at = omega arith in held_same (at - rest) ∙ ap (λ (m : ℕ). same n (only_keys keys) i m) z ∙ sym e

  -- ---- three copies: by the room, and by each comparison
  pub loop-short : length keys - rest < 2 * n → false ≡ is_loop n i (held_keys (i + n) rest keys)
  unfolding is_loop
  loop-short h = rw (held-count, lt-leb (i + min_copies * n) (i + n + (length keys - rest)) (omega arith))

  module _ {a : Bool} (long : 2 * n ≤ length keys - rest) (first : a ≡ same n (only_keys keys) i rest) where
    room-3 : leb (i + min_copies * n) (count (held_keys (i + n) rest keys)) ≡ true
    room-3 = le-leb (i + min_copies * n) (count (held_keys (i + n) rest keys)) (omega (arith, held-count))

    second : same n (held_keys (i + n) rest keys) i (i + n) ≡ a
    second = let z : i + n + (rest - rest) ≡ i + n = omega arith in rw z at (held_at rest (omega arith) first)

    pub loop-one : a ≡ false → false ≡ is_loop n i (held_keys (i + n) rest keys)
    unfolding is_loop
    loop-one e = rw (room-3, second, e)

    pub loop-two : {b : Bool} → a ≡ true → b ≡ same n (only_keys keys) i (rest + n) → b ≡ is_loop n i (held_keys (i + n) rest keys)
    unfolding is_loop
    loop-two e f =
        let z : i + n + (rest + n - rest) ≡ i + 2 * n = omega arith in
        rw (room-3, second, e) (sym (rw z at (held_at (rest + n) (omega arith) f)))

  -- ---- the end of the copies
  pub copies-first : copies_end n (held_keys (i + n) rest keys) i ≡ copies_from keys n i rest rest
  unfolding copies_from
  copies-first = let z : i + n + (rest - rest) ≡ i + n = omega arith in rw z (from_first n (held_keys (i + n) rest keys) i)

  module _ (end : ℕ) (past : rest ≤ end) (inner : end ≤ length keys) where
    pub copies-next : {t : Bool} → 0 < n → n ≤ length keys - end → t ≡ same n (only_keys keys) i end → t ≡ true → copies_from keys n i rest end ≡ copies_from keys n i rest (end + n)
    unfolding copies_from
    copies-next some h e f =
        let z : i + n + (end + n - rest) ≡ i + n + (end - rest) + n = omega arith in
        rw z (from_next n (held_keys (i + n) rest keys) i some (i + n + (end - rest)) (omega (arith, held-count)) (held_at end past e ∙ f))

    pub copies-stop : {t : Bool} → n ≤ length keys - end → t ≡ same n (only_keys keys) i end → t ≡ false → copies_from keys n i rest end ≡ i + n + (end - rest)
    unfolding copies_from
    copies-stop h e f = from-stop n (held_keys (i + n) rest keys) i (i + n + (end - rest)) (held_at end past e ∙ f)

    pub copies-past : length keys - end < n → copies_from keys n i rest end ≡ i + n + (end - rest)
    unfolding copies_from
    copies-past h = from_past n (held_keys (i + n) rest keys) i (i + n + (end - rest)) (omega (arith, held-count))

  -- ---- where the words go on
  pub goes-behind : {t : Bool} {e : ℕ} → t ≡ is_loop n i (held_keys (i + n) rest keys) → t ≡ true → e ≡ copies_end n (held_keys (i + n) rest keys) i
      → e ≡ goes_on n i (held_keys (i + n) rest keys)
  unfolding goes_on
  goes-behind e f g = rw (← e, f) g

  pub goes_on_lem : {t : Bool} → t ≡ is_loop n i (held_keys (i + n) rest keys) → t ≡ false → i + n + (rest - rest) ≡ goes_on n i (held_keys (i + n) rest keys)
  unfolding goes_on
  goes_on_lem e f = rw (← e, f) (omega arith)

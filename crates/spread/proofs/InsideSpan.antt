-- The searches for the first and the last word inside a span, where they stand at i. Assumes nothing.
use Prim.Native.Nat.{ℕ, ◌+◌, ◌-◌, ◌<◌, ◌≤◌}
use mathlib.Core.Path.{◌≡◌, sym, ◌∙◌}
use mathlib.Core.Bool.{Bool, false, not}
use native.Mathlib.Omega.{arith}
use lib.ListN.{length}
use lib.Ieee.{Float}
use Rattle.base.specs.Loop.{up, down}
use Rattle.base.specs.Words.{Edges, times_at}
use Rattle.base.proofs.Loops.{up_next, up_done}
use Rattle.spread.specs.Spread.{inside, outside_at}

module _ (from to : Float) (es : Edges) where
  negated : {b t : Bool} → t ≡ b → not t ≡ not b
  negated e = rw e

  -- ---- the search for the first stands at i
  unfoldable pub first_from : ℕ → ℕ
  first_from i = up (outside_at from to es) (length es.starts - i) i

  -- word i is not inside: it goes on
  pub first_next : (i : ℕ) {t : Bool} → i < length es.starts → t ≡ inside from to (times_at es i) → t ≡ false → first_from i ≡ first_from (i + 1)
  unfolding first_from
  first_next i h e f = up_next (outside_at from to es) (length es.starts) i h (sym (negated e) ∙ rw f)

  -- no word is left: it ends there
  pub first_done : (i : ℕ) → length es.starts ≤ i → first_from i ≡ i
  unfolding first_from
  first_done i h = up_done (outside_at from to es) (length es.starts) i h

  -- ---- the search for the last
  unfoldable pub last_from : ℕ → ℕ
  last_from i = down (outside_at from to es) i

  -- at the first word it ends
  pub last_done : (i : ℕ) → i ≤ 0 → last_from i ≡ i
  unfolding last_from down
  last_done i h = let z : i ≡ 0 = omega arith in rw z

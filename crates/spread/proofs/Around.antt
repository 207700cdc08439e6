-- A word between inside ones. Assumes nothing.
use Prim.Native.Nat.{ℕ}
use mathlib.Core.Path.{◌≡◌}
use mathlib.Core.Bool.{Bool, true}
use lib.Ieee.{Float}
use Rattle.base.specs.Words.{Edges, times_at}
use Rattle.spread.specs.Spread.{inside, between_turn}

-- ---- one that is inside itself stays
module _ (from to : Float) (i : ℕ) (es : Edges) {t : Bool} (is : t ≡ inside from to (times_at es i)) where
  pub between_stays : t ≡ true → es ≡ between_turn from to i es
  unfolding between_turn
  between_stays e = rw (← is, e)

-- The words of one phrase, by whether a word inside was found. Assumes nothing.
use Prim.Native.Nat.{ℕ, ◌<◌}
use mathlib.Core.List.{List}
use mathlib.Core.Path.{◌≡◌}
use native.Mathlib.Omega.{arith}
use borrow.Author.Tests.{ne_eqb, eq-eqb}
use lib.ListN.{length}
use lib.Ieee.{Float}
use Rattle.base.specs.Words.{Edges}
use Rattle.spread.specs.Spread.{first_inside, spread, place_group}
use Rattle.spread.specs.Parts.{place_around}

module _ (letters : List ℕ) (from to : Float) (es : Edges) where
  pub group-around : {first : ℕ} → first ≡ first_inside from to es → first < length es.starts → place_around letters from to first es ≡ place_group letters from to es
  unfolding place_group place_around
  group-around e h = rw (e, ne_eqb (first_inside from to es) (length es.starts) (λ z. omega (arith, e, h, z)))

  pub group-stray : length es.starts ≡ first_inside from to es → spread letters from to es ≡ place_group letters from to es
  unfolding place_group
  group-stray e = rw (eq-eqb (first_inside from to es) (length es.starts) (omega (arith, e)))

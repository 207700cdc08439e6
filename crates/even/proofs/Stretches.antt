-- Where the run of a crushed word ends, by its parts. Assumes nothing.
use Prim.Native.Nat.{ℕ, ◌+◌, ◌-◌}
use mathlib.Core.Path.{◌≡◌}
use mathlib.Core.List.{List}
use lib.ListN.{get_or}
use lib.Ieee.{Float, nan}
use Rattle.base.specs.Floats.{◌⊕◌, ◌⊗◌, num}
use Rattle.base.specs.Words.{Edges}
use Rattle.js.specs.Js.{js_min, js_max}
use Rattle.even.specs.Even.{slow_letter, slow_word, sum, end_of}

-- ---- where the run ends
module _ (letters : List ℕ) (es : Edges) where
  pub end_is : (ceiling : Float) (a b : ℕ) {n low t : Float} → n ≡ sum letters a b
      → low ≡ js_min ceiling (get_or es.starts a nan ⊕ slow_letter ⊗ n ⊕ slow_word ⊗ num (b - a + 1)) → t ≡ js_max (get_or es.ends b nan) low → t ≡ end_of letters es ceiling a b
  unfolding end_of
  end_is ceiling a b en el et = rw (et, el, en)

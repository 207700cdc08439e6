-- The steps of the fit one after the other. Assumes nothing.
use Prim.Native.Nat.{ℕ, ◌≤◌, ◌^◌}
use mathlib.Core.Bool.{Bool, false}
use mathlib.Core.List.{List}
use mathlib.Core.Path.{◌≡◌, ◌∙◌}
use native.Mathlib.Omega.{arith}
use lib.Ieee.{Float, inf}
use Rattle.base.specs.Words.{Edges}
use Rattle.even.specs.Even.{even_out}
use Rattle.fit_to_sound.specs.FitToSound.{fit_to_sound, put_in_order, move_to_rise, clip, settle_ends}

-- ---- the steps one after the other
pub fit_is : {limit : Float} {ordered risen placed evened settled fitted : Edges} (row : List Bool) (duration : Float) (letters : List ℕ) (es : Edges)
    → ordered ≡ put_in_order duration es → risen ≡ move_to_rise row ordered → placed ≡ clip risen → limit ≡ inf false → evened ≡ even_out letters limit placed
    → settled ≡ settle_ends row duration letters evened → fitted ≡ even_out letters duration settled → fitted ≡ fit_to_sound row duration letters es
unfolding fit_to_sound
fit_is row duration letters es eo er ep el ee et ef = ef ∙ rw (et, ee, el, ep, er, eo)

-- ---- lists that were of one length, and few, still are
pub still_alike : {s e s₀ e₀ l n : ℕ} → s ≡ s₀ → e ≡ e₀ → (e₀ ≡ s₀) × ((l ≡ s₀) × ((s₀ ≤ 4096) × (n ≤ 2 ^ 40))) → (e ≡ s) × ((l ≡ s) × (s ≤ 4096))
still_alike p q (a, (b, (c, d))) = (omega arith, (omega arith, omega arith))

-- Loud frames by their levels. Assumes nothing.
use Rattle.std.proofs.Common.{◌≡◌, ℕ, ◌≤◌, false, List, length, get_or, sym, ap, ◌∙◌}
use lib.ListN.{get_or-map, get_or-eq_default}
use lib.Ieee.{Float, nan, lt}
use Rattle.base.proofs.Signs.{lt-nan}
use Rattle.envelope.specs.Envelope.{loud_row}

-- ---- a frame's level, by its number
pub loud-level : (f : Float) (ls : List Float) (k : ℕ) → get_or (loud_row f ls) k false ≡ lt f (get_or ls k nan)
unfolding loud_row
loud-level f ls k = rw (sym (lt-nan f)) (get_or-map (λ v. lt f v) ls k nan)

pub loud-outside : (f : Float) (ls : List Float) (k : ℕ) → length ls ≤ k → get_or (loud_row f ls) k false ≡ false
loud-outside f ls k h = loud-level f ls k ∙ ap (lt f) (get_or-eq_default ls nan h) ∙ lt-nan f

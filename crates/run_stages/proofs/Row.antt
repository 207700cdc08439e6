-- Tails, onsets, ends: what each leaves is what the next takes. Assumes nothing.
use Prim.Native.Nat.{ℕ}
use mathlib.Core.Path.{◌≡◌, ◌∙◌}
use mathlib.Core.Bool.{Bool}
use mathlib.Core.List.{List}
use lib.Ieee.{Float}
use Rattle.base.specs.Words.{Edges}
use Rattle.tails.specs.Tails.{hand_back_tails}
use Rattle.onsets.specs.Onsets.{snap_onsets}
use Rattle.ends.specs.Ends.{snap_ends}

-- ---- tails, onsets, ends, one after the other
pub snap-is : {tails onsets last : Edges} (row : List Bool) (duration : Float) (letters units : List ℕ) (es : Edges) → tails ≡ hand_back_tails row letters es → onsets ≡ snap_onsets row tails
    → last ≡ snap_ends row duration units onsets → last ≡ snap_ends row duration units (snap_onsets row (hand_back_tails row letters es))
snap-is row duration letters units es et eo el = el ∙ rw (eo, et)

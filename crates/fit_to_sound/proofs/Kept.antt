-- Fitting words to their sound keeps the lengths of both lists. Assumes nothing.
use Prim.Native.Nat.{ℕ}
use mathlib.Core.Bool.{Bool, false}
use mathlib.Core.List.{List}
use mathlib.Core.Path.{◌≡◌, ◌∙◌}
use lib.Ieee.{Float, inf}
use Rattle.base.specs.Words.{Edges}
use Rattle.base.proofs.Parts.{long}
use Rattle.even.specs.Even.{even_out}
use Rattle.even.proofs.Turns.{even-long}
use Rattle.fit_to_sound.specs.FitToSound.{fit_to_sound, put_in_order, move_to_rise, clip, settle_ends}
use Rattle.fit_to_sound.proofs.StartsKept.{order-long, rise-long, clip-long}
use Rattle.fit_to_sound.proofs.EndsKept.{settle-long}

-- ---- fitting keeps the lengths of both lists
pub fit-long : (row : List Bool) (duration : Float) (letters : List ℕ) (es : Edges) → long (fit_to_sound row duration letters es) ≡ long es
unfolding fit_to_sound
fit-long row duration letters es =
    let ordered = put_in_order duration es in
    let placed = clip (move_to_rise row ordered) in
    let evened = even_out letters (inf false) placed in
    even-long letters duration (settle_ends row duration letters evened) ∙ settle-long row duration letters evened ∙ even-long letters (inf false) placed
    ∙ clip-long (move_to_rise row ordered) ∙ rise-long row ordered ∙ order-long duration es

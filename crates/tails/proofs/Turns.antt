-- One word's turn of hand_back_tails: both words' times are stored. Assumes nothing.
use Prim.Native.Nat.{ℕ, ◌-◌}
use mathlib.Core.Bool.{Bool}
use mathlib.Core.List.{List}
use mathlib.Core.Path.{◌≡◌, ◌∙◌}
use lib.ListN.{get_or}
use Rattle.base.specs.Words.{Edges, times_at, set_times}
use Rattle.base.specs.declared.Times.{Times}
use Rattle.tails.specs.Tails.{neighbours, hand_back, tail_turn}
use Rattle.tails.specs.declared.one_word.Neighbours.{Neighbours}

pub tail-turn : (row : List Bool) (letters : List ℕ) (i : ℕ) (es : Edges) {prev w : Times} {p : Neighbours} {first both : Edges}
    → prev ≡ times_at es (i - 1) → w ≡ times_at es i → p ≡ hand_back row (neighbours prev w) (get_or letters i 0)
    → first ≡ set_times es (i - 1) p.prev → both ≡ set_times first i p.w
    → both ≡ tail_turn row letters i es
unfolding tail_turn
tail-turn row letters i es ep ew e ef eb = eb ∙ rw (ef, (rw (ep, ew) at e))

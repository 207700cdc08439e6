-- Putting in order, moving and clipping keep the lengths of both lists. Assumes nothing.
use Prim.Native.Nat.{ℕ}
use mathlib.Core.Bool.{Bool}
use mathlib.Core.List.{List}
use mathlib.Core.Path.{◌≡◌}
use lib.ListN.{length-set}
use lib.Ieee.{Float}
use Rattle.base.specs.Words.{Edges, set_times}
use Rattle.base.specs.declared.Times.{Times}
use Rattle.base.proofs.Loops.{each_keeps}
use Rattle.base.proofs.Parts.{long, both}
use Rattle.fit_to_sound.specs.FitToSound.{order_turn, put_in_order, rise_turn_of, move_to_rise, clip_turn, clip}

pub stored-long : (es : Edges) (i : ℕ) (w : Times) → long (set_times es i w) ≡ long es
stored-long es i w = both (length-set es.starts i w.start) (length-set es.ends i w.end)

pub order-long : (duration : Float) (es : Edges) → long (put_in_order duration es) ≡ long es
unfolding put_in_order order_turn
order-long duration es = each_keeps long (order_turn duration) (λ (i : ℕ) (s : Edges). stored-long s i _) _ 0 es

pub rise-long : (row : List Bool) (es : Edges) → long (move_to_rise row es) ≡ long es
unfolding move_to_rise rise_turn_of
rise-long row es = each_keeps long (rise_turn_of row) (λ (i : ℕ) (s : Edges). stored-long s i _) _ 0 es

pub clip-long : (es : Edges) → long (clip es) ≡ long es
unfolding clip clip_turn
clip-long es = each_keeps long clip_turn (λ (i : ℕ) (s : Edges). stored-long s i _) _ 0 es

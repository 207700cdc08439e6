use Prim.Native.Nat.{◌-◌}
use mathlib.Core.Path.{◌≡◌}
use lib.ListN.{length}
use Rattle.base.specs.Loop.{each}
use Rattle.base.specs.Words.{edges}
use Rattle.fit_to_sound.specs.FitToSound.{order_turn, put_in_order}
use Rattle.fit_to_sound.proofs.word_starts.put_in_order.Given as goal

abbrev pub invariant-loop-i : goal.invariant-loop-i
invariant-loop-i l =
    (length l.starts ≡ length l.initial.starts) × ((length l.ends ≡ length l.initial.ends)
    × (put_in_order l.duration (edges l.initial.starts l.initial.ends) ≡ each (order_turn l.duration) (length l.initial.starts - l.i) l.i (edges l.starts l.ends)))

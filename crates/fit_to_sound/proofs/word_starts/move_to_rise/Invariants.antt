use Prim.Native.Nat.{◌-◌}
use mathlib.Core.Path.{◌≡◌}
use lib.ListN.{length}
use Rattle.base.specs.Loop.{each}
use Rattle.base.specs.Words.{edges}
use Rattle.envelope.specs.Envelope.{loud_row}
use Rattle.fit_to_sound.specs.FitToSound.{rise_turn_of, move_to_rise}
use Rattle.fit_to_sound.proofs.word_starts.move_to_rise.Given as goal

abbrev pub invariant-loop-i : goal.invariant-loop-i
invariant-loop-i l =
    (length l.starts ≡ length l.initial.starts) × ((length l.ends ≡ length l.initial.ends)
    × (move_to_rise (loud_row l.e.floor l.e.levels.now) (edges l.initial.starts l.initial.ends) ≡ each (rise_turn_of (loud_row l.e.floor l.e.levels.now)) (length l.initial.starts - l.i) l.i (edges l.starts l.ends)))

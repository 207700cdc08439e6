use Prim.Native.Nat.{◌-◌}
use mathlib.Core.Path.{◌≡◌}
use lib.ListN.{length}
use Rattle.base.specs.Loop.{each}
use Rattle.base.specs.Words.{edges}
use Rattle.envelope.specs.Envelope.{loud_row}
use Rattle.onsets.specs.Onsets.{onset_turn, snap_onsets}
use Rattle.onsets.proofs.move_onsets.Given as goal

abbrev pub invariant-loop-i : goal.invariant-loop-i
invariant-loop-i l =
    (length l.starts ≡ length l.initial.starts)
    × (snap_onsets (loud_row l.e.floor l.e.levels.now) (edges l.initial.starts l.ends) ≡ each (onset_turn (loud_row l.e.floor l.e.levels.now)) (length l.initial.starts - l.i) l.i (edges l.starts l.ends))

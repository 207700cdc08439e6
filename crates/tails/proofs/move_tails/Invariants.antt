use Prim.Native.Nat.{◌-◌, ◌<◌}
use mathlib.Core.Path.{◌≡◌}
use lib.ListN.{length}
use Rattle.base.specs.Loop.{each}
use Rattle.base.specs.TimedWords.{edges_of, SameLists}
use Rattle.envelope.specs.Envelope.{loud_row}
use Rattle.tails.specs.Tails.{tail_turn, hand_back_tails}
use Rattle.tails.proofs.move_tails.Given as goal

abbrev pub invariant-loop-i : goal.invariant-loop-i
invariant-loop-i l =
    SameLists l.initial.w l.w × ((0 < l.i) × ((length l.w.starts.now ≡ length l.initial.w.starts.now)
    × (hand_back_tails (loud_row l.e.floor l.e.levels.now) l.initial.w.weights.now (edges_of l.initial.w) ≡ each (tail_turn (loud_row l.e.floor l.e.levels.now) l.initial.w.weights.now) (length l.initial.w.starts.now - l.i) l.i (edges_of l.w))))

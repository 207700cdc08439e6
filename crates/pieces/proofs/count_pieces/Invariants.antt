use Prim.Native.Nat.{◌-◌, ◌≤◌}
use mathlib.Core.Path.{◌≡◌}
use lib.ListN.{length}
use Rattle.envelope.specs.Envelope.{quiet_row}
use Rattle.pieces.proofs.Passes.{Counting}
use Rattle.pieces.proofs.count_pieces.Given as goal

abbrev pub invariant-loop-from : goal.invariant-loop-from
invariant-loop-from l =
    (length (quiet_row l.e.floor l.e.levels.now) ≡ length l.e.levels.now) × ((l.from ≤ length l.e.levels.now) × ((l.n ≤ l.from) × Counting (quiet_row l.e.floor l.e.levels.now) l.from l.n))

abbrev pub decreases-loop-from : goal.decreases-loop-from
decreases-loop-from l = length l.e.levels.now - l.from

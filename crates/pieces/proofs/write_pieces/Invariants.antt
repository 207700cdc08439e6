use Prim.Native.Nat.{◌-◌, ◌≤◌}
use mathlib.Core.Path.{◌≡◌}
use lib.ListN.{length}
use Rattle.envelope.specs.Envelope.{quiet_row}
use Rattle.pieces.proofs.Passes.{Writing}
use Rattle.pieces.proofs.write_pieces.Given as goal

abbrev pub invariant-loop-from : goal.invariant-loop-from
invariant-loop-from l =
    (length (quiet_row l.e.floor l.e.levels.now) ≡ length l.e.levels.now) × ((l.from ≤ length l.e.levels.now) × ((l.n ≤ l.from)
    × (Writing (quiet_row l.e.floor l.e.levels.now) l.e.count (λ p. p.start) l.initial.starts l.from l.n l.starts × Writing (quiet_row l.e.floor l.e.levels.now) l.e.count (λ p. p.end) l.initial.ends l.from l.n l.ends)))

abbrev pub decreases-loop-from : goal.decreases-loop-from
decreases-loop-from l = length l.e.levels.now - l.from

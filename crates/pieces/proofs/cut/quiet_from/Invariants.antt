use Prim.Native.Nat.{◌≤◌}
use mathlib.Core.Path.{◌≡◌}
use Rattle.envelope.specs.Envelope.{quiet_row}
use Rattle.pieces.specs.Parts.{quiet_start}
use Rattle.pieces.proofs.cut.quiet_from.Given as goal

abbrev pub invariant-loop-k : goal.invariant-loop-k
invariant-loop-k l = (l.from ≤ l.k) × (quiet_start (quiet_row l.w.floor l.w.levels.now) l.from l.to ≡ quiet_start (quiet_row l.w.floor l.w.levels.now) l.from l.k)

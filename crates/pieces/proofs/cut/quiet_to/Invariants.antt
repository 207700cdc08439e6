use mathlib.Core.Path.{◌≡◌}
use Rattle.envelope.specs.Envelope.{quiet_row}
use Rattle.pieces.specs.Parts.{quiet_end}
use Rattle.pieces.proofs.cut.quiet_to.Given as goal

abbrev pub invariant-loop-k : goal.invariant-loop-k
invariant-loop-k l = quiet_end (quiet_row l.w.floor l.w.levels.now) l.from ≡ quiet_end (quiet_row l.w.floor l.w.levels.now) l.k

use Prim.Native.Nat.{◌-◌}
use Rattle.envelope.specs.Envelope.{quiet_row}
use Rattle.pieces.specs.Parts.{Stands}
use Rattle.pieces.proofs.cut.find_middle.Given as goal

abbrev pub invariant-loop-q : goal.invariant-loop-q
invariant-loop-q l = Stands (quiet_row l.w.floor l.w.levels.now) l.q

abbrev pub decreases-loop-q : goal.decreases-loop-q
decreases-loop-q l = 801 - l.q.start

use Rattle.std.specs.Prelude.{not}
use Rattle.envelope.specs.Envelope.{loud_row}
use Rattle.envelope.specs.Parts.{Throughout}
use Rattle.envelope.proofs.view.Envelope.first_frame.Given as goal

abbrev pub invariant-loop-k : goal.invariant-loop-k
invariant-loop-k l = Throughout (loud_row l.self.floor l.self.levels.now) (not l.want) l.lo l.k

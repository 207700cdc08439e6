use Rattle.std.specs.Prelude.{false}
use Rattle.envelope.specs.Envelope.{loud_row}
use Rattle.envelope.specs.Parts.{Throughout}
use Rattle.envelope.proofs.view.Envelope.last_frame.Given as goal

abbrev pub invariant-loop-k : goal.invariant-loop-k
invariant-loop-k l = Throughout (loud_row l.self.floor l.self.levels.now) false l.k l.hi

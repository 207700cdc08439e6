use Rattle.envelope.proofs.Fours.{Clean}
use Rattle.envelope.proofs.level.no_nan.Given as goal

abbrev pub invariant-loop-i : goal.invariant-loop-i
invariant-loop-i l = Clean l.part.samples.now l.i l.ok

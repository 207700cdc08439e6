use Rattle.envelope.proofs.Fours.{Left}
use Rattle.envelope.proofs.level.squares_side_by_side.Given as goal

abbrev pub invariant-loop-i : goal.invariant-loop-i
invariant-loop-i l = Left l.part.samples.now 0 l.i l.first × (Left l.part.samples.now 1 l.i l.second × (Left l.part.samples.now 2 l.i l.third × Left l.part.samples.now 3 l.i l.fourth))

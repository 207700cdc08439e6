use Rattle.roots.proofs.Fours.{Fours}
use Rattle.roots.proofs.root_by_fours.Given as goal

abbrev pub invariant-loop-a : goal.invariant-loop-a
invariant-loop-a l = Fours l.m l.h l.a l.c

abbrev pub decreases-loop-a : goal.decreases-loop-a
decreases-loop-a l = l.c

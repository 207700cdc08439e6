-- `ends::move_ends` meets its contract: the words left from i give what the whole list gives. Assumes nothing.
use mathlib.Core.Path.{refl, sym, ◌∙◌}
use borrow.Author.Rules.{rules}
use native.Mathlib.Omega.{arith}
use Rattle.base.proofs.Loops.{each_start, each_next, each-done}
use Rattle.ends.specs.Ends.{snap_ends}
use Rattle.ends.proofs.move_ends.Goals as goal

pub loop-i-init : goal.loop-i-init
unfolding snap_ends
loop-i-init c = ((refl, (refl, refl)), (refl, each_start _ _ _))

pub loop-i-preserved : goal.loop-i-preserved
loop-i-preserved c =
    (search rules, (search rules, c.loop-i.invariant.1.1 ∙ each_next _ _ _ (omega arith) (rw (c.loop-i.invariant.0.1.1) c.snap_end.ensures.snapped)))

pub returns-clause-snapped : goal.returns-clause-snapped
returns-clause-snapped c = sym (c.loop-i.invariant.1.1 ∙ each-done _ _ _ _ (omega arith))

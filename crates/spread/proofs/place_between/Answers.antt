-- `spread::place_between` meets its contract: what is left gives what the whole gives. Assumes nothing.
use borrow.Author.Rules.{rules}
use mathlib.Core.Path.{refl, sym, ap, ◌∙◌}
use native.Mathlib.Omega.{arith}
use lib.ListN.{length}
use Rattle.base.proofs.Loops.{each_next, each-done}
use Rattle.spread.specs.Spread.{place_between}
use Rattle.spread.proofs.place_between.Goals as goal

pub loop-i-init : goal.loop-i-init
unfolding place_between
loop-i-init c = (search rules, (refl, refl))

pub loop-i-preserved : goal.loop-i-preserved
loop-i-preserved c =
    (search rules, (omega (arith, ap length c.place_stray.ensures.same.1.1), c.loop-i.invariant.1.1 ∙ each_next _ _ _ (omega arith) c.place_stray.ensures.placed))

pub returns-clause-placed : goal.returns-clause-placed
returns-clause-placed c = sym (c.loop-i.invariant.1.1 ∙ each-done _ _ _ _ (omega arith))

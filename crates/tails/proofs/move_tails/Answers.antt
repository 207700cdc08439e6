-- `tails::move_tails` meets its contract: what is left gives what the whole gives. Assumes nothing.
use borrow.Author.Rules.{rules}
use mathlib.Core.Path.{refl, sym, ◌∙◌}
use native.Mathlib.Omega.{arith}
use Rattle.base.proofs.Loops.{each_next, each-done}
use Rattle.tails.specs.Tails.{hand_back_tails}
use Rattle.tails.proofs.Turns.{tail-turn}
use Rattle.tails.proofs.move_tails.Goals as goal

pub loop-i-init : goal.loop-i-init
unfolding hand_back_tails
loop-i-init c = ((refl, (refl, refl)), (omega arith, (refl, refl)))

pub loop-i-preserved : goal.loop-i-preserved
loop-i-preserved c = (
  search rules,
  (
    omega arith,
    (
      search rules,
      c.loop-i.invariant.1.1.1 ∙ each_next _ _ _ (omega arith) (rw (c.loop-i.invariant.0.1.1) (tail-turn _ _ _ _ c.at.ensures c.at-in-loop-i.ensures c.hand_back-p.ensures c.put.ensures.moved c.put-in-loop-i.ensures.moved)),
    ),
  ),
)

pub returns-clause-handed : goal.returns-clause-handed
returns-clause-handed c = sym (c.loop-i.invariant.1.1.1 ∙ each-done _ _ _ _ (omega arith))

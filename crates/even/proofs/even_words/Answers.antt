-- `even::even_words` meets its contract: the turns that are left give what all of them give. Assumes nothing.
use borrow.Author.Rules.{rules}
use mathlib.Core.Path.{refl, sym, ◌∙◌}
use native.Mathlib.Omega.{arith}
use Rattle.even.proofs.Turns.{turns-start, turns_next, turns-done}
use Rattle.even.proofs.even_words.Goals as goal

pub loop-i-init : goal.loop-i-init
loop-i-init c = ((refl, (refl, refl)), (refl, turns-start _ _ _))

pub loop-i-preserved : goal.loop-i-preserved
loop-i-preserved c =
    (search rules, (search rules, c.loop-i.invariant.1.1 ∙ turns_next _ _ _ _ _ (omega arith) (omega arith) (omega arith) (rw (c.loop-i.invariant.0.1.1) c.even_turn-i.ensures.evened.0)))

pub returns-clause-evened : goal.returns-clause-evened
returns-clause-evened c = sym (c.loop-i.invariant.1.1 ∙ turns-done _ _ _ _ (omega arith))

-- `loops::pass::passes` meets its contract: the passes that are left give what all passes give. Assumes nothing.
use mathlib.Core.Path.{refl, sym, ◌∙◌}
use native.Mathlib.Omega.{arith}
use borrow.Author.Rules.{rules}
use Rattle.loops.proofs.InPlace.{passes-first, passes-next, passes-done}
use Rattle.loops.proofs.pass.passes.Goals as goal

pub loop-n-init : goal.loop-n-init
loop-n-init c = (search rules, (refl, (omega arith, passes-first _ _ c.args.w.now.alike)))

pub loop-n-preserved : goal.loop-n-preserved
loop-n-preserved c = (
  search rules,
  (
    c.pass-len.ensures.as_many ∙ c.loop-n.invariant.1.0,
    (omega arith, c.loop-n.invariant.1.1.1 ∙ passes-next _ _ _ (omega arith) c.pass-len.ensures.passed),
  ),
)

pub returns-clause-passed : goal.returns-clause-passed
returns-clause-passed c = sym (c.loop-n.invariant.1.1.1 ∙ passes-done _ _ (omega arith))

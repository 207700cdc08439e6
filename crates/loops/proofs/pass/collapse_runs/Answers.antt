-- `loops::pass::collapse_runs` meets its contract: what the pass gives that stands behind place i is what the whole pass gives. Assumes nothing.
use mathlib.Core.Path.{sym, ◌∙◌}
use native.Mathlib.Omega.{arith}
use borrow.Author.Rules.{rules}
use Rattle.base.proofs.Cleared.{words-alike}
use Rattle.loops.proofs.InPlace.{after_first, turned, after-done}
use Rattle.loops.proofs.pass.collapse_runs.Goals as goal

pub loop-rest-init : goal.loop-rest-init
loop-rest-init c = (
  c.args.w.now.alike,
  (omega arith, (omega arith, after_first _ _ (omega arith) _ _ c.args.w.now.alike _ (omega arith) (omega arith) (omega arith) c.past_loop-rest.ensures.0)),
)

pub loop-rest-preserved : goal.loop-rest-preserved
loop-rest-preserved c =
    turned _ _ (omega arith) _ _ _ c.requires.0 c.loop-rest.invariant.0 c.loop-rest.invariant.1.0 c.loop-rest-test.true c.move_word.ensures.moved
    (words-alike (search rules) (search rules) (search rules) (search rules) (search rules)) (omega arith) (omega arith) c.past_loop-rest-in-loop-rest.ensures.0 c.loop-rest.invariant.1.1.1

pub returns-clause-passed : goal.returns-clause-passed
returns-clause-passed c = sym (c.loop-rest.invariant.1.1.1 ∙ after-done _ _ (omega arith) _ _ c.loop-rest.invariant.0 _ _ (omega arith) (omega arith) (omega arith))

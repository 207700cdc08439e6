-- `loops::copy::copies_end` meets its contract: the search that stands at `end` ends where the whole search does. Assumes nothing.
use mathlib.Core.Path.{sym, ◌∙◌}
use native.Mathlib.Omega.{arith}
use Rattle.loops.proofs.Held.{copies-first, copies-next, copies-stop, copies-past}
use Rattle.loops.proofs.copy.copies_end.Goals as goal

pub loop-end-init : goal.loop-end-init
loop-end-init c = (omega arith, (omega arith, copies-first _ _ _ _ (omega arith) (omega arith)))

pub loop-end-preserved : goal.loop-end-preserved
loop-end-preserved c = (
  omega arith,
  (
    omega arith,
    c.loop-end.invariant.1.1 ∙ copies-next _ _ _ _ (omega arith) (omega arith) _ (omega arith) (omega arith) (omega arith) c.loop-end-test.true c.same.ensures c.if-same.true,
  ),
)

pub returns-else-same : goal.returns-else-same
returns-else-same c = (
  sym (c.loop-end.invariant.1.1 ∙ copies-stop _ _ _ _ (omega arith) (omega arith) _ (omega arith) (omega arith) c.loop-end-test.true c.same.ensures c.if-same.false),
  (omega arith, omega arith),
)

pub returns-after-loop-end : goal.returns-after-loop-end
returns-after-loop-end c = (
  sym (c.loop-end.invariant.1.1 ∙ copies-past _ _ _ _ (omega arith) (omega arith) _ (omega arith) (omega arith) c.loop-end-test.false),
  (omega arith, omega arith),
)

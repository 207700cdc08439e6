-- `loops::copy::is_loop` meets its contract: the room, then the two comparisons. Assumes nothing.
use mathlib.Core.Path.{sym, ◌∙◌}
use native.Mathlib.Omega.{arith}
use borrow.Author.Tests.{lt-leb}
use Rattle.std.proofs.lemmas.Bool.{false≢true}
use Rattle.loops.proofs.Held.{loop-short, loop-one, loop-two}
use Rattle.loops.proofs.copy.is_loop.Goals as goal
use Rattle.loops.proofs.copy.is_loop.Goals.{then-n-keys, else-n-keys}

pub returns-then-same : goal.returns-then-same
returns-then-same c =
    elim c.if-n-keys.branch [
      | then-n-keys w ↦ loop-two _ _ _ _ (omega arith) (omega arith) (omega arith) w.same.ensures (cc) c.same-then-same.ensures
      | else-n-keys w ↦ absurd (false≢true (sym (lt-leb _ _ w.if-n-keys.false) ∙ sym w.value-is ∙ c.if-same.true))
    ]

pub returns-else-same : goal.returns-else-same
returns-else-same c =
    elim c.if-n-keys.branch [
      | then-n-keys w ↦ rw c.if-same.false (loop-one _ _ _ _ (omega arith) (omega arith) (omega arith) w.same.ensures (cc))
      | else-n-keys w ↦ rw c.if-same.false (loop-short _ _ _ _ (omega arith) (omega arith) (omega arith))
    ]

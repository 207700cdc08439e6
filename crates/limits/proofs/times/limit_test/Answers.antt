-- `limits::times::limit_test` meets its contract. Assumes nothing.
use Rattle.std.proofs.Common.{sym, ◌∙◌}
use lib.Ieee.{of_bits}
use Rattle.limits.proofs.Finite.{limit-finite, limit-top, limit-low}
use Rattle.limits.proofs.times.limit_test.Goals as goal
use Rattle.limits.proofs.times.limit_test.Goals.{else-t-via-then-t+else-not-is_finite, else-t-via-else-t}

pub returns-then-not-is_finite : goal.returns-then-not-is_finite
unfolding of_bits
returns-then-not-is_finite c = limit-top _ c.if-t.true (sym c.is_finite.ensures.value ∙ c.if-not-is_finite.true)

pub returns : goal.returns
unfolding of_bits
returns c =
    elim c.else-t.branch [
      | else-t-via-then-t+else-not-is_finite w ↦ c.time_test.ensures ∙ limit-finite _ (sym w.is_finite.ensures.value ∙ w.if-not-is_finite.false)
      | else-t-via-else-t w ↦ c.time_test.ensures ∙ limit-low _ w.if-t.false
    ]

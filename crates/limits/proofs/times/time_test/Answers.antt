-- `limits::times::time_test` meets its contract. Assumes nothing.
use lib.Ieee.{of_bits, neg}
use Rattle.limits.proofs.Finite.{time-fine, time-low, time-high}
use Rattle.limits.proofs.times.time_test.Goals as goal
use Rattle.limits.proofs.times.time_test.Goals.{else-t-via-then-t+else-t-2, else-t-via-else-t}

pub returns-then-t-2 : goal.returns-then-t-2
unfolding of_bits neg
returns-then-t-2 c = time-fine _ c.if-t.true c.if-t-2.true

pub returns : goal.returns
unfolding of_bits neg
returns c =
    elim c.else-t.branch [
      | else-t-via-then-t+else-t-2 w ↦ time-high _ c.no_time.ensures w.if-t.true w.if-t-2.false
      | else-t-via-else-t w ↦ time-low _ c.no_time.ensures w.if-t.false
    ]

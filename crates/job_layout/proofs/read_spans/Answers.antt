-- `job_layout::read_spans` meets its contract: the places of each list hold a table. Assumes nothing.
use Rattle.std.proofs.Common.{arith}
use Rattle.std.specs.Float.{nan}
use Rattle.job_layout.proofs.Filling.{tabled, spans-alike}
use Rattle.job_layout.specs.Layout.{spans_from, column}
use Rattle.job_layout.proofs.read_spans.Goals as goal

pub returns : goal.returns
unfolding spans_from column
returns c =
    let h = c.loop-i.invariant in
    spans-alike
    (tabled _ nan c.loop-i.starts h.0 (omega arith) (omega arith))
    (tabled _ nan c.loop-i.ends h.1.0 (omega arith) (omega arith))
    (tabled _ 0 c.loop-i.counts h.1.1 (omega arith) (omega arith))

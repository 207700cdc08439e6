-- `job_layout::read_samples` meets its contract: the places hold a table. Assumes nothing.
use Rattle.std.proofs.Common.{arith}
use Rattle.std.specs.Float.{nan}
use Rattle.job_layout.specs.Layout.{samples_from, column}
use Rattle.job_layout.proofs.Filling.{tabled}
use Rattle.job_layout.proofs.read_samples.Goals as goal

pub returns : goal.returns
unfolding samples_from column
returns c = tabled _ nan c.loop-i.samples c.loop-i.invariant (omega arith) (omega arith)

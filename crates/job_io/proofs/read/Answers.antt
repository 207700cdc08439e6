-- `job_io::read` meets its contract: what a read brings stands behind what came before. Assumes nothing.
use Rattle.std.proofs.Common.{rules}
use Rattle.job_io.proofs.Taking.{taken-one, taken-more}
use Rattle.job_io.proofs.read.Goals as goal

pub loop-done-preserved : goal.loop-done-preserved
loop-done-preserved g c =
    let one = taken-one _ _ c.read.result c.read.new.buf _ c.read.ensures.bound c.read.ensures.bytes c.unwrap_or-more.ensures in
    let h = c.loop-done.invariant in
    (search rules, taken-more _ _ _ c.loop-done.done _ c.unwrap_or-more.result c.loop-done.bytes c.read.new.buf h.0 one.0 h.1 one.1)

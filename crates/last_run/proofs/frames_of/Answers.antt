-- `last_run::frames_of` meets its contract, by its two tests. Assumes nothing.
use native.Mathlib.Omega.{arith}
use Rattle.last_run.proofs.Steps.{frames-none, frames-under, frames-from}
use Rattle.last_run.proofs.frames_of.Goals as goal

pub returns-then-s-eq0 : goal.returns-then-s-eq0
returns-then-s-eq0 c = (frames-none _ c.if-s-eq0.true, tt)

pub returns-then-saturating_sub-lt-MIN_RUN : goal.returns-then-saturating_sub-lt-MIN_RUN
returns-then-saturating_sub-lt-MIN_RUN c = (frames-under _ c.if-s-eq0.false (omega arith), tt)

pub returns : goal.returns
returns c = (frames-from _ c.if-s-eq0.false (omega arith), omega arith)
